-- Lists of numbers that ascend.
use Rattle.std.proofs.Common.{◌≡◌, ℕ, zero, suc, ◌+◌, ◌<◌, Bool, true, false, List, [], ◌∷◌, ◌∙◌, eqb, length, get_or, drop, take, refl, ◌≤◌, arith}
use Rattle.std.specs.Prelude.{◌==◌}
use Rattle.std.specs.List.{AllByRecursion, IsDistinct, list_any}
use Rattle.std.proofs.lemmas.Map.Keys.{IsDistinct-cons}
use Rattle.std.proofs.lemmas.Bool.Decides.{nat_tests}
use Rattle.cube_model.specs.Ascending.{ascends_from}
use Rattle.cube_model.proofs.Ascending.{any-turned, ascends_first, not_among_lower}

-- a number is one of these
abbrev pub has : List ℕ → ℕ → Bool
has xs k = list_any (λ x. k == x) xs

-- no number that ascends is among those behind it
pub not_among-behind : (least : ℕ) (xs : List ℕ) (i : ℕ) → ascends_from (λ x. x) least xs ≡ true → i < length xs → has (drop (i + 1) xs) (get_or xs i 0) ≡ false
not_among-behind least [] i ascends within = absurd (omega arith)
not_among-behind least (x ∷ xs) zero ascends within = any-turned x xs ∙ not_among_lower (x + 1) x xs (ascends_first (λ x. x) least x xs ascends).others (omega arith)
not_among-behind least (x ∷ xs) (suc i) ascends within =
    let next : suc i + 1 ≡ suc (i + 1) = omega arith in
    rw next (not_among-behind (x + 1) xs i (ascends_first (λ x. x) least x xs ascends).others (omega arith))

-- nor among those before it
pub not_among-before : (least : ℕ) (xs : List ℕ) (i : ℕ) → ascends_from (λ x. x) least xs ≡ true → i < length xs → has (take i xs) (get_or xs i 0) ≡ false
not_among-before least [] i ascends within = absurd (omega arith)
not_among-before least (x ∷ xs) zero ascends within = refl
not_among-before least (x ∷ xs) (suc i) ascends within =
    let first = ascends_first (λ x. x) least x xs ascends in
    let later : x + 1 ≤ get_or xs i 0 = at_least (x + 1) xs i first.others (omega arith) in
    grind (arith, nat_tests, later, not_among-before (x + 1) xs i first.others (omega arith))
  where
    at_least : (least : ℕ) (xs : List ℕ) (i : ℕ) → ascends_from (λ x. x) least xs ≡ true → i < length xs → least ≤ get_or xs i 0
    at_least least [] i ascends within = absurd (omega arith)
    at_least least (x ∷ xs) zero ascends within = (ascends_first (λ x. x) least x xs ascends).from
    at_least least (x ∷ xs) (suc i) ascends within =
        let first = ascends_first (λ x. x) least x xs ascends in
        omega (arith, first.from, at_least (x + 1) xs i first.others (omega arith))

-- so they differ
apart : (least k : ℕ) (xs : List ℕ) → ascends_from (λ x. x) least xs ≡ true → k < least → AllByRecursion (λ x. eqb k x ≡ false) xs
apart least k [] ascends lower = tt
apart least k (x ∷ xs) ascends lower =
    let first = ascends_first (λ x. x) least x xs ascends in
    (grind (arith, nat_tests, first.from), apart (x + 1) k xs first.others (omega (arith, first.from)))

pub IsDistinct-ascending : (least : ℕ) (xs : List ℕ) → ascends_from (λ x. x) least xs ≡ true → IsDistinct eqb xs
unfolding IsDistinct
IsDistinct-ascending least [] ascends = tt
IsDistinct-ascending least (x ∷ xs) ascends =
    let first = ascends_first (λ x. x) least x xs ascends in
    IsDistinct-cons eqb x xs (apart (x + 1) x xs first.others (omega arith)) (IsDistinct-ascending (x + 1) xs first.others)
