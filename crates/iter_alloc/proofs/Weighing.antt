-- What a cell gets of the facts of marked spots is what its place gets of the spots.
use Rattle.cube_model.proofs.Ascending.{ascends_first}
use Rattle.cube_model.specs.Ascending.{ascends_from}
use Rattle.cube_model.specs.Cells.{is_among}
use Rattle.fact_groups.proofs.Partition.{sum_by-filter}
use Rattle.iter_alloc.proofs.InSpots.{place-within}
use Rattle.iter_alloc.proofs.PlaceSums.{sum_by-among, sum_by-map}
use Rattle.iter_alloc.proofs.Tests.{equal, itself, unequal}
use Rattle.iter_alloc.specs.Forest.{at}
use Rattle.iter_alloc.specs.LaidOut.{AreOwnPlaces}
use Rattle.iter_alloc.specs.Marks.{is_of}
use Rattle.iter_alloc.specs.Places.{falls, amount}
use Rattle.iter_alloc.specs.Portions.{portion_in}
use Rattle.iter_alloc.specs.Rounds.{share_of, share_by}
use Rattle.iter_alloc.specs.Spotting.{is_among_codes, place_in}
use Rattle.std.proofs.Common.{◌≡◌, ℕ, zero, suc, ◌+◌, ◌*◌, ◌<◌, ◌≤◌, Bool, true, false, List, [], ◌∷◌, get_or, length, map, refl, ap, sym, ◌∙◌, arith}
use Rattle.std.proofs.lemmas.List.{length-map}
use Rattle.std.proofs.lemmas.List.Sums.{sum_by-cons}
use Rattle.std.specs.List.{sum_by, count_by, range_with_len}
use Rattle.std.specs.Prelude.{All, Option, Some, None, if◌then◌else◌, ◌==◌, ◌||◌, filter, IfSome}

-- what is below all numbers of a list that ascends is none of them
below-none : (least x : ℕ) (xs : List ℕ) → x < least → ascends_from (λ c. c) least xs ≡ true → is_among xs x ≡ false
below-none least x [] under ascends = refl
below-none least x (y ∷ ys) under ascends =
    let first = ascends_first (λ (c : ℕ). c) least y ys ascends in
    ap (λ b. b || is_among ys x) (unequal y x (λ same. absurd (omega (arith, same, first.from, under)))) ∙ below-none (y + 1) x ys (omega (arith, first.from, under)) first.others

-- of cells that ascend one falls to itself alone
pub falls-once : (gets : ℕ → ℕ) (least : ℕ) (xs : List ℕ) (x : ℕ) → ascends_from (λ c. c) least xs ≡ true → falls gets xs x ≡ (if is_among xs x then gets x else 0)
falls-once gets least [] x ascends = refl
falls-once gets least (y ∷ ys) x ascends =
    let first = ascends_first (λ (c : ℕ). c) least y ys ascends in
    either (y == x) refl (falls-once gets (y + 1) ys x first.others) first.others
  where
    either : (b : Bool) → (y == x) ≡ b → falls gets ys x ≡ (if is_among ys x then gets x else 0) → ascends_from (λ c. c) (y + 1) ys ≡ true → falls gets (y ∷ ys) x ≡ (if b || is_among ys x then gets x else 0)
    either true is rest later =
        let same = equal y x is in
        let behind = below-none (y + 1) x ys (omega (arith, same)) later in
        omega (arith, sum_by-cons (λ i. if i == x then gets i else 0) y ys, ap (λ b. if b then gets y else 0) is, ap gets same, rest, ap (λ b. if b then gets x else 0) behind)
    either false is rest later = omega (arith, sum_by-cons (λ i. if i == x then gets i else 0) y ys, ap (λ b. if b then gets y else 0) is, rest)

-- cells with their places
module _ (keys : List ℕ) (own : AreOwnPlaces keys) (level placed : ℕ → ℕ) (same : (i : ℕ) → i < length keys → placed i ≡ level (at keys i)) (cells : List ℕ) (has : All (λ c. is_among_codes keys c ≡ true) cells) where
  abbrev places : List ℕ
  places = map (place_in keys) cells

  placed-at : (k d : ℕ) → k < length cells → placed (place_in keys (get_or cells k d)) ≡ level (get_or cells k d)
  placed-at k d within = let there = place-within keys (get_or cells k d) (has k d within) in same (place_in keys (get_or cells k d)) there.0 ∙ ap level there.1

  mass-same : sum_by placed places ≡ sum_by level cells
  mass-same = sum_by-map placed (place_in keys) cells ∙ sum_by-among (λ c. placed (place_in keys c)) level cells placed-at

  -- a share by places is one by cells
  share-same : (k d : ℕ) → k < length cells → share_by placed places (place_in keys (get_or cells k d)) ≡ share_by level cells (get_or cells k d)
  share-same k d within =
      ap (λ n. share_of n (sum_by placed places) (length places)) (placed-at k d within)
      ∙ ap (λ n. share_of (level (get_or cells k d)) n (length places)) mass-same
      ∙ ap (λ n. share_of (level (get_or cells k d)) (sum_by level cells) n) (length-map cells (place_in keys))

  place-is : (i : ℕ) → i < length keys → (k d : ℕ) → k < length cells → (place_in keys (get_or cells k d) == i) ≡ (get_or cells k d == at keys i)
  place-is i inside k d within = either (place_in keys (get_or cells k d) == i) refl
    where
      there : (place_in keys (get_or cells k d) < length keys) × (get_or keys (place_in keys (get_or cells k d)) 0 ≡ get_or cells k d)
      there = place-within keys (get_or cells k d) (has k d within)

      either : (b : Bool) → (place_in keys (get_or cells k d) == i) ≡ b → b ≡ (get_or cells k d == at keys i)
      either true is = sym (ap (λ c. c == at keys i) (sym there.1 ∙ ap (at keys) (equal (place_in keys (get_or cells k d)) i is)) ∙ itself (at keys i))
      either false is = sym (unequal (get_or cells k d) (at keys i) (λ eq. absurd (cc (is, itself i, ap (λ k. k == i) (ap (place_in keys) eq ∙ own.own i inside)))))

  -- a place gets of a spot what its cell gets of the spot's facts
  pub amount-same : (least members i : ℕ) → i < length keys → ascends_from (λ c. c) least cells ≡ true
      → amount placed i (record { own = places; members = members }) ≡ members * (if is_among cells (at keys i) then share_by level cells (at keys i) else 0)
  amount-same least members i inside ascends =
      sum_by-map (λ j. if j == i then members * share_by placed places j else 0) (place_in keys) cells
      ∙ sum_by-among (λ c. if place_in keys c == i then members * share_by placed places (place_in keys c) else 0) (λ c. if c == at keys i then members * share_by level cells c else 0) cells
      (λ k d within.
      ap (λ b. if b then members * share_by placed places (place_in keys (get_or cells k d)) else 0) (place-is i inside k d within)
      ∙ ap (λ n. if get_or cells k d == at keys i then members * n else 0) (share-same k d within))
      ∙ falls-once (λ c. members * share_by level cells c) least cells (at keys i) ascends
      ∙ times (is_among cells (at keys i)) (share_by level cells (at keys i))
    where
      times : (b : Bool) (n : ℕ) → (if b then members * n else 0) ≡ members * (if b then n else 0)
      times true n = refl
      times false n = omega arith

  -- and so what of a fact is in some cells
  pub portion-same : (inside : List ℕ) (members : ℕ) → portion_in inside keys placed (record { own = places; members = members }) ≡ sum_by (share_by level cells) (filter (is_among inside) cells)
  portion-same inside members =
      sum_by-map (λ i. if is_among inside (at keys i) then share_by placed places i else 0) (place_in keys) cells
      ∙ sum_by-among (λ c. if is_among inside (at keys (place_in keys c)) then share_by placed places (place_in keys c) else 0) (λ c. if is_among inside c then share_by level cells c else 0) cells
      (λ k d within.
      ap (λ c. if is_among inside c then share_by placed places (place_in keys (get_or cells k d)) else 0) (place-within keys (get_or cells k d) (has k d within)).1
      ∙ ap (λ n. if is_among inside (get_or cells k d) then n else 0) (share-same k d within))
      ∙ sym (sum_by-filter (is_among inside) (share_by level cells) cells)

sum_by-none : {X : Type 0} (f : X → ℕ) (xs : List X) → All (λ x. f x ≡ 0) xs → sum_by f xs ≡ 0
sum_by-none f [] none = refl
sum_by-none f (x ∷ xs) none = omega (arith, sum_by-cons f x xs, none 0 x (omega arith), sum_by-none f xs (λ k d within. none (suc k) d (omega arith)))

sum_by-plus : {X : Type 0} (f h : X → ℕ) (xs : List X) → sum_by (λ x. f x + h x) xs ≡ sum_by f xs + sum_by h xs
sum_by-plus f h [] = refl
sum_by-plus f h (x ∷ xs) = omega (arith, sum_by-cons (λ x. f x + h x) x xs, sum_by-cons f x xs, sum_by-cons h x xs, sum_by-plus f h xs)

-- of numbers one alone counts
one-below : (g : ℕ → ℕ) (start n s : ℕ) → s < start → sum_by (λ k. if s == k then g k else 0) (range_with_len start n) ≡ 0
one-below g start zero s under = refl
one-below g start (suc n) s under =
    omega (
      arith,
      sum_by-cons (λ k. if s == k then g k else 0) start (range_with_len (start + 1) n),
      ap (λ b. if b then g start else 0) (unequal s start (λ same. absurd (omega (arith, same, under)))),
      one-below g (start + 1) n s (omega (arith, under)),
    )

pub sum-one : (g : ℕ → ℕ) (start n s : ℕ) → start ≤ s → s < start + n → sum_by (λ k. if s == k then g k else 0) (range_with_len start n) ≡ g s
sum-one g start zero s from below = absurd (omega (arith, from, below))
sum-one g start (suc n) s from below = either (s == start) refl (λ later. sum-one g (start + 1) n s later (omega (arith, below)))
  where
    either : (b : Bool) → (s == start) ≡ b → (start + 1 ≤ s → sum_by (λ k. if s == k then g k else 0) (range_with_len (start + 1) n) ≡ g s) → sum_by (λ k. if s == k then g k else 0) (range_with_len start (suc n)) ≡ g s
    either true is rest =
        let same = equal s start is in
        omega (arith, sum_by-cons (λ k. if s == k then g k else 0) start (range_with_len (start + 1) n), ap (λ b. if b then g start else 0) is, ap g same, one-below g (start + 1) n s (omega (arith, same)))
    either false is rest =
        let apart : s ≡ start → ⊥ = λ same. cc (is, itself s, ap (λ k. s == k) same) in
        omega (arith, sum_by-cons (λ k. if s == k then g k else 0) start (range_with_len (start + 1) n), ap (λ b. if b then g start else 0) is, rest (omega (arith, apart, from)))

-- a value of the spot of a fact, if it has one
abbrev pub value_in : (ℕ → ℕ) → Option ℕ → ℕ
value_in g None = 0
value_in g (Some s) = g s

-- values of spots are summed over their facts, or once for each spot with the number of its facts
pub sum-spots : (g : ℕ → ℕ) (count : ℕ) (spots : List (Option ℕ)) → All (λ spot. IfSome spot (λ s. s < count)) spots → sum_by (λ k. count_by (is_of k) spots * g k) (range_with_len 0 count) ≡ sum_by (value_in g) spots
sum-spots g count [] within = sum_by-none (λ k. 0 * g k) (range_with_len 0 count) (λ k d inside. omega arith)
sum-spots g count (o ∷ spots) within =
    sum_by-among (λ k. count_by (is_of k) (o ∷ spots) * g k) (λ k. (if is_of k o then g k else 0) + count_by (is_of k) spots * g k) (range_with_len 0 count) (λ k d inside. split (get_or (range_with_len 0 count) k d))
    ∙ sum_by-plus (λ k. if is_of k o then g k else 0) (λ k. count_by (is_of k) spots * g k) (range_with_len 0 count)
    ∙ omega (arith, first o (within 0 o (omega arith)), sum-spots g count spots (λ k d inside. within (suc k) d (omega arith)), sum_by-cons (value_in g) o spots)
  where
    times : (b : Bool) (c n m : ℕ) → n ≡ (if b then 1 else 0) + c → n * m ≡ (if b then m else 0) + c * m
    times true c n m is = ap (λ k. k * m) is ∙ omega arith
    times false c n m is = ap (λ k. k * m) is ∙ omega arith

    split : (k : ℕ) → count_by (is_of k) (o ∷ spots) * g k ≡ (if is_of k o then g k else 0) + count_by (is_of k) spots * g k
    split k = times (is_of k o) (count_by (is_of k) spots) (count_by (is_of k) (o ∷ spots)) (g k) (sum_by-cons (λ p. if is_of k p then 1 else 0) o spots)

    first : (p : Option ℕ) → IfSome p (λ s. s < count) → sum_by (λ k. if is_of k p then g k else 0) (range_with_len 0 count) ≡ value_in g p
    first None inside = sum_by-none (λ k. 0) (range_with_len 0 count) (λ k d inside. refl)
    first (Some s) inside = sum-one g 0 count s (omega arith) (omega (arith, inside))
