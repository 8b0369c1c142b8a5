-- Lists of numbers that ascend: sorted ones without repeats, and searches in them.
use Rattle.std.proofs.Common.{◌≡◌, ℕ, ◌+◌, ◌<◌, ◌≤◌, Bool, true, false, List, [], ◌∷◌, ◌||◌, length, get_or, filter, eqb, refl, sym, inl, inr, eq-eqb, ne_eqb, arith}
use Rattle.std.specs.Prelude.{◌==◌, Result, Ok, Err, is_ok, nat_lt}
use Rattle.std.specs.List.{dedup, dedup_from, list_any}
use Rattle.std.specs.List.Sorted.{IsBinarySearchResult, IsSearchInRange, IsSorted}
use Rattle.std.specs.Ordering.{nat_cmp}
use Rattle.std.proofs.lemmas.Bool.{cases_eq}
use Rattle.std.proofs.lemmas.Bool.Decides.{nat_tests}
use Rattle.std.proofs.lemmas.List.{get_or_default}
use Rattle.std.proofs.lemmas.List.Folds.{list_any_at, list_any_none}
use Rattle.std.proofs.lemmas.Map.Keys.{IsStrictlyIncreasing-dedup}
use Rattle.cube_base.proofs.Search.{searched}
use Rattle.cube_model.specs.Ascending.{ascends_from}
use Rattle.cube_model.specs.Cells.{is_among}
use Rattle.cube_model.proofs.Ascending.{ascends_first, ascends_increasing, ascends_later}

any-dedup_from : (p : ℕ → Bool) (k : ℕ) (xs : List ℕ) → list_any p (dedup_from eqb k xs) ≡ (p k || list_any p xs)
any-dedup_from p k [] = refl
any-dedup_from p k (x ∷ xs) = elim (cases_eq x k) [
  | inl same ↦ rw (eq-eqb x k same, any-dedup_from p k xs, same) (grind arith)
  | inr differs ↦ rw (ne_eqb x k differs, any-dedup_from p x xs) refl
]

-- what passes a test passes it without the repeats
pub any-dedup : (p : ℕ → Bool) (xs : List ℕ) → list_any p (dedup eqb xs) ≡ list_any p xs
any-dedup p [] = refl
any-dedup p (x ∷ xs) = any-dedup_from p x xs

-- sorted numbers without repeats ascend
pub ascends-dedup : (xs : List ℕ) → IsSorted nat_cmp xs → ascends_from (λ x. x) 0 (dedup eqb xs) ≡ true
ascends-dedup xs sorted = ascends_increasing 0 (dedup eqb xs) (IsStrictlyIncreasing-dedup xs sorted) (λ some. omega arith)

-- a binary search among numbers that ascend finds one exactly where it is there
pub is_among-searched : (xs : List ℕ) (k : ℕ) (r : Result ℕ ℕ) → ascends_from (λ x. x) 0 xs ≡ true → IsSearchInRange r (length xs) → IsBinarySearchResult (λ x. nat_cmp x k) xs r
    → is_ok r ≡ is_among xs k
is_among-searched xs k (Ok at) ascends in_range equal =
    let found = searched (λ x. x) 0 xs (λ i j before within. ascends_later (λ x. x) 0 xs ascends i j 0 0 before within) k (Ok at) in_range equal in
    sym (list_any_at (λ m. m == k) xs at 0 found.found.in_range (grind (arith, nat_tests, found.found.has_key)))
is_among-searched xs k (Err at) ascends in_range parted =
    let gap = (searched (λ x. x) 0 xs (λ i j before within. ascends_later (λ x. x) 0 xs ascends i j 0 0 before within) k (Err at) in_range parted).absent in
    sym (list_any_none (λ m. m == k) xs (λ i d within. other i d within (gap.smaller_before i) (λ from. gap.greater_after i from within)))
  where
    other : (i d : ℕ) → i < length xs → (i < at → get_or xs i 0 < k) → (at ≤ i → k < get_or xs i 0) → (get_or xs i d == k) ≡ false
    other i d within smaller greater =
        let same : get_or xs i d ≡ get_or xs i 0 = get_or_default xs i d 0 within in
        ne_eqb (get_or xs i d) k (λ equal. absurd (grind (arith, same, equal, smaller, greater)))

-- numbers that ascend from above one are all greater, and none is smaller
pub filters-above : (least new : ℕ) (ids : List ℕ) → new < least → ascends_from (λ i. i) least ids ≡ true → (filter (λ i. nat_lt i new) ids ≡ []) × (filter (λ i. nat_lt new i) ids ≡ ids)
filters-above least new [] above ascends = (refl, refl)
filters-above least new (i ∷ ids) above ascends =
    let first = ascends_first (λ i. i) least i ids ascends in
    let rest = filters-above (i + 1) new ids (omega (arith, first.from, above)) first.others in
    let not_less : nat_lt i new ≡ false = grind (arith, nat_tests, first.from, above) in
    let greater : nat_lt new i ≡ true = grind (arith, nat_tests, first.from, above) in
    (rw not_less rest.0, rw (greater, rest.1) refl)
