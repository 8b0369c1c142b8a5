-- Items in order of their keys.
use Rattle.std.proofs.Common.{◌≡◌, ℕ, suc, ◌+◌, ◌≤◌, Bool, true, false, List, [], ◌∷◌, refl, arith}
use Rattle.std.specs.Prelude.{All, ◌==◌, if◌then◌else◌}
use Rattle.std.specs.List.{count_by}
use Rattle.std.specs.List.Sorted.{IsNonDecreasingBy}
use Rattle.std.proofs.lemmas.Bool.Decides.{nat_tests}
use Rattle.std.proofs.lemmas.List.Elements.{All-cons, All-head, All-nil}
use Rattle.std.proofs.lemmas.List.Sums.{sum_by-cons}
use Rattle.cube_model.specs.Ascending.{ascends_from}
use Rattle.cube_model.proofs.Ascending.{ascends_cons}

-- what is never counted never passes
never-counted : {X : Type 0} (p : X → Bool) (xs : List X) → count_by p xs ≤ 0 → All (λ x. p x ≡ false) xs
never-counted p [] none = All-nil (λ x. p x ≡ false)
never-counted p (x ∷ xs) none =
    let step = sum_by-cons (λ x. if p x then 1 else 0) x xs in
    All-cons (λ x. p x ≡ false) x xs (fails (p x) (omega (arith, step, none))) (never-counted p xs (omega (arith, step, none)))
  where
    fails : (b : Bool) → (if b then 1 else 0) ≤ 0 → b ≡ false
    fails true none = absurd (omega (arith, none))
    fails false none = refl

module _ {X : Type 0} (key : X → ℕ) where
  -- where keys do not fall and none is there twice, they ascend
  pub ascends-sorted : (least : ℕ) (xs : List X) → IsNonDecreasingBy key xs → All (λ x. least ≤ key x) xs → ((n : ℕ) → count_by (λ x. n == key x) xs ≤ 1) → ascends_from key least xs ≡ true
  ascends-sorted least [] up from once = refl
  ascends-sorted least (x ∷ xs) up from once =
      ascends_cons key least x xs (record {
        from = All-head (λ x. least ≤ key x) x xs from;
        others = ascends-sorted (key x + 1) xs (λ i j d before within. up (suc i) (suc j) d (omega (arith, before)) (omega (arith, within))) above (λ n. omega (arith, once n, sum_by-cons (λ x. if n == key x then 1 else 0) x xs));
      })
    where
      here : ◌≡◌ {A = ℕ} (if key x == key x then 1 else 0) 1
      here = grind (arith, nat_tests)

      differs : All (λ y. (key x == key y) ≡ false) xs
      differs = never-counted (λ y. key x == key y) xs (omega (arith, once (key x), sum_by-cons (λ y. if key x == key y then 1 else 0) x xs, here))

      above : All (λ y. key x + 1 ≤ key y) xs
      above k d within = let other = differs k d within in let least = up 0 (suc k) d (omega arith) (omega (arith, within)) in grind (arith, nat_tests, other, least)
