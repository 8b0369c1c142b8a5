-- Lists that ascend: by pairs, and by what follows what.
use Rattle.std.proofs.Common.{◌≡◌, ℕ, suc, ◌+◌, ◌<◌, ◌≤◌, true, false, List, [], ◌∷◌, ◌++◌, refl, inl, inr, arith}
use Rattle.std.specs.Prelude.{All, AllPairs, ◌==◌, if◌then◌else◌}
use Rattle.std.specs.List.{count_by, list_any}
use Rattle.std.specs.List.Sorted.{IsStrictlyIncreasing}
use Rattle.std.proofs.lemmas.Bool.{cases_eq}
use Rattle.std.proofs.lemmas.Bool.Decides.{nat_tests}
use Rattle.std.proofs.lemmas.List.Elements.{All-head, All-tail, All-weaker}
use Rattle.std.proofs.lemmas.List.Folds.{list_any_none}
use Rattle.std.proofs.lemmas.List.Kept.{AllPairs-from_increasing}
use Rattle.std.proofs.lemmas.List.Sums.{sum_by-cons}
use Rattle.cube_model.specs.Ascending.{ascends_from}
use Rattle.cube_model.proofs.Ascending.{ascends_cons, ascends_first, ascends_later, ascends_least}

module _ {X : Type 0} (R : X → X → Type 0) where
  -- the first stands before all others, and these are in order
  pub pairs-first : (x : X) (xs : List X) → AllPairs R (x ∷ xs) → All (R x) xs
  pairs-first x xs pairs k d within = pairs 0 (suc k) d (omega arith) (omega arith)

  pub pairs-rest : (x : X) (xs : List X) → AllPairs R (x ∷ xs) → AllPairs R xs
  pairs-rest x xs pairs i j d before within = pairs (suc i) (suc j) d (omega arith) (omega arith)

module _ {X : Type 0} (key : X → ℕ) where
  -- a list whose keys ascend pair by pair ascends, and the other way round
  pub ascends-from_pairs : (least : ℕ) (xs : List X) → AllPairs (λ x y. key x < key y) xs → All (λ x. least ≤ key x) xs → ascends_from key least xs ≡ true
  ascends-from_pairs least [] pairs from = refl
  ascends-from_pairs least (x ∷ xs) pairs from =
      ascends_cons key least x xs (record {
        from = All-head (λ x. least ≤ key x) x xs from;
        others = ascends-from_pairs (key x + 1) xs (pairs-rest (λ x y. key x < key y) x xs pairs) (All-weaker (λ y. key x < key y) (λ y. key x + 1 ≤ key y) (λ y above. omega (arith, above)) xs (pairs-first (λ x y. key x < key y) x xs pairs));
      })

  pub pairs-from_ascends : (least : ℕ) (xs : List X) → ascends_from key least xs ≡ true → AllPairs (λ x y. key x < key y) xs
  pairs-from_ascends least xs ascends i j d before within = ascends_later key least xs ascends i j d d before within

  -- a list that ascends does so from any number that is below all of it
  pub ascends-raised : (least more : ℕ) (xs : List X) → ascends_from key least xs ≡ true → All (λ x. more ≤ key x) xs → ascends_from key more xs ≡ true
  ascends-raised least more [] ascends from = refl
  ascends-raised least more (x ∷ xs) ascends from =
      ascends_cons key more x xs (record { from = All-head (λ x. more ≤ key x) x xs from; others = (ascends_first key least x xs ascends).others })

  -- smaller ones, one, and greater ones
  pub ascends-append : (least : ℕ) (xs : List X) (y : X) (ys : List X) → ascends_from key least xs ≡ true → All (λ x. key x < key y) xs → least ≤ key y → ascends_from key (key y + 1) ys ≡ true
      → ascends_from key least (xs ++ y ∷ ys) ≡ true
  ascends-append least [] y ys ascends below from above = ascends_cons key least y ys (record { from = from; others = above })
  ascends-append least (x ∷ xs) y ys ascends below from above =
      let first = ascends_first key least x xs ascends in
      let here : key x < key y = All-head (λ x. key x < key y) x xs below in
      ascends_cons key least x (xs ++ y ∷ ys)
      (record { from = first.from; others = ascends-append (key x + 1) xs y ys first.others (All-tail (λ x. key x < key y) x xs below) (omega (arith, here)) above })

-- numbers that ascend have each number once at most
pub once_among : (least : ℕ) (xs : List ℕ) → ascends_from (λ x. x) least xs ≡ true → (n : ℕ) → count_by (λ x. n == x) xs ≡ (if list_any (λ x. n == x) xs then 1 else 0)
once_among least [] ascends n = refl
once_among least (x ∷ xs) ascends n =
    let first = ascends_first (λ (x : ℕ). x) least x xs ascends in
    let rest = once_among (x + 1) xs first.others n in
    let step = sum_by-cons (λ (x : ℕ). if n == x then 1 else 0) x xs in
    elim (cases_eq x n) [
      | inl same ↦
          let above = ascends_least (λ (x : ℕ). x) (x + 1) xs first.others in
          let none : list_any (λ y. n == y) xs ≡ false = list_any_none (λ y. n == y) xs (All-weaker (λ y. x + 1 ≤ y) (λ y. (n == y) ≡ false) (λ y lt. grind (arith, nat_tests)) xs above) in
          grind (arith, nat_tests, rest, step, none, same)
      | inr other ↦ grind (arith, nat_tests, rest, step, other)
    ]

-- numbers of which each is below the next ascend
pub ascends-from_increasing : (xs : List ℕ) → IsStrictlyIncreasing xs → ascends_from (λ x. x) 0 xs ≡ true
ascends-from_increasing xs up = ascends-from_pairs (λ (x : ℕ). x) 0 xs (AllPairs-from_increasing xs up) (λ k d within. omega arith)
