-- The rows of the groups of some codes are no more than those of all facts, and these are not many.
use Rattle.std.proofs.Common.{◌≡◌, ℕ, ◌+◌, ◌*◌, ◌≤◌, Bool, true, false, List, [], ◌∷◌, length, map, refl, ap, sym, ◌∙◌, arith}
use Rattle.std.specs.Prelude.{All, filter, find, ◌==◌, if◌then◌else◌, Option, Some, None}
use Rattle.std.specs.List.{list_any, sum_by}
use Rattle.std.specs.Option.{option_map}
use Rattle.std.proofs.lemmas.Bool.Decides.{nat_tests}
use Rattle.std.proofs.lemmas.List.Elements.{All-cons, All-head, All-nil, All-tail, All-weaker}
use Rattle.std.proofs.lemmas.List.Sums.{length-filter, sum_by-cons, sum_by-le}
use Rattle.cube_model.specs.declared.edit.Fact.{Fact}
use Rattle.cube_model.specs.Allocation.{Allocation, ExtendedFact, Policy, allocation, extended, row_count}
use Rattle.cube_model.specs.Ascending.{ascends_from}
use Rattle.cube_model.specs.Tree.{Dimension, IsTree}
use Rattle.region_algebra.specs.Space.{IsRegion, code_of}
use Rattle.region_algebra.proofs.Tuples.{code_of-same}
use Rattle.fact_groups.specs.Groups.{Group, column_sums, facts_with, group_at, has_code}
use Rattle.fact_groups.proofs.Ascending.{once_among}
use Rattle.fact_groups.proofs.Groups.{first-holds, first-passes}
use Rattle.fact_groups.proofs.Partition.{sum_by-alike, sum_by-either, sum_by-filter, sum_by-ones}
use Rattle.fact_groups.proofs.Sharing.{allocation-shared}
use Rattle.cube_state.specs.GroupAfter.{group_row_count}
use Rattle.fact_indexes.proofs.GroupsSoFar.{filter-never}

-- a number that stands among ascending ones counts once at most
once-le : (codes : List ℕ) → ascends_from (λ code. code) 0 codes ≡ true → (n v : ℕ) → sum_by (λ code. if n == code then v else 0) codes ≤ v
once-le codes up n v =
    let times = sum_by-le (λ (code : ℕ). v) v (filter (λ code. n == code) codes) (λ k d within. omega arith) in
    omega (arith, sum_by-filter (λ code. n == code) (λ code. v) codes, times, ap (λ m. m * v) (length-filter (λ code. n == code) codes ∙ once_among 0 codes up n), at_most (list_any (λ code. n == code) codes))
  where
    at_most : (b : Bool) → (if b then 1 else 0) * v ≤ v
    at_most true = omega arith
    at_most false = omega arith

-- so what ascending codes hold of facts adds up to no more than the facts do
module _ (dims : List Dimension) (f : Fact → ℕ) where
  abbrev held : List Fact → ℕ → ℕ
  held facts code = sum_by f (facts_with dims code facts)

  held-cons : (fact : Fact) (facts : List Fact) (codes : List ℕ) → sum_by (held (fact ∷ facts)) codes ≡ sum_by (λ code. if code_of dims fact.region == code then f fact else 0) codes + sum_by (held facts) codes
  held-cons fact facts [] = refl
  held-cons fact facts (code ∷ codes) =
      omega (
        arith,
        sum_by-cons (held (fact ∷ facts)) code codes,
        sum_by-cons (λ code. if code_of dims fact.region == code then f fact else 0) code codes,
        sum_by-cons (held facts) code codes,
        sum_by-either (has_code dims code fact) f fact (facts_with dims code facts),
        held-cons fact facts codes,
      )

  held-none : (codes : List ℕ) → sum_by (held []) codes ≡ 0
  held-none [] = refl
  held-none (code ∷ codes) = omega (arith, sum_by-cons (held []) code codes, held-none codes)

  held-le : (facts : List Fact) (codes : List ℕ) → ascends_from (λ code. code) 0 codes ≡ true → sum_by (held facts) codes ≤ sum_by f facts
  held-le [] codes up = omega (arith, held-none codes)
  held-le (fact ∷ facts) codes up = omega (arith, held-cons fact facts codes, once-le codes up (code_of dims fact.region) (f fact), held-le facts codes up, sum_by-cons f fact facts)

-- and no more facts have them than there are
pub facts-le : (dims : List Dimension) (facts : List Fact) (codes : List ℕ) → ascends_from (λ code. code) 0 codes ≡ true → sum_by (λ code. length (facts_with dims code facts)) codes ≤ length facts
facts-le dims facts codes up =
    omega (
      arith,
      sum_by-alike (λ code. length (facts_with dims code facts)) (held dims (λ f. 1) facts) codes (λ code. sum_by-ones (facts_with dims code facts)),
      held-le dims (λ f. 1) facts codes up,
      sum_by-ones facts,
    )

-- equal numbers
sum_by-equal : {X : Type 0} (f : X → ℕ) (v : ℕ) (xs : List X) → All (λ x. f x ≡ v) xs → sum_by f xs ≡ length xs * v
sum_by-equal f v [] each = omega arith
sum_by-equal f v (x ∷ xs) each = omega (arith, sum_by-cons f x xs, All-head (λ x. f x ≡ v) x xs each, sum_by-equal f v xs (All-tail (λ x. f x ≡ v) x xs each))

-- what holds of those that pass
All-passing : {X : Type 0} (p : X → Bool) (P : X → Type 0) (xs : List X) → All (λ x. p x ≡ true → P x) xs → All P (filter p xs)
All-passing p P [] each = All-nil P
All-passing p P (x ∷ xs) each = either (p x) refl (All-passing p P xs (All-tail (λ x. p x ≡ true → P x) x xs each))
  where
    either : (b : Bool) → p x ≡ b → All P (filter p xs) → All P (if b then x ∷ filter p xs else filter p xs)
    either true is rest = All-cons P x (filter p xs) (All-head (λ x. p x ≡ true → P x) x xs each is) rest
    either false is rest = rest

sum_by-map : {X Y : Type 0} (g : Y → ℕ) (h : X → Y) (xs : List X) → sum_by g (map h xs) ≡ sum_by (λ x. g (h x)) xs
sum_by-map g h [] = refl
sum_by-map g h (x ∷ xs) = omega (arith, sum_by-cons g (h x) (map h xs), sum_by-map g h xs, sum_by-cons (λ x. g (h x)) x xs)

module _ (policy : Policy) (columns : ℕ) (dims : List Dimension) (facts : List Fact) (trees : All IsTree dims) (regions : All (λ f. IsRegion dims f.region) facts) where
  abbrev rows_by : Fact → ℕ
  rows_by f = length (allocation policy dims facts f).rows

  abbrev rows_at : ℕ → ℕ
  rows_at code = group_row_count (group_at policy columns dims facts code)

  abbrev group_from : ℕ → Fact → Group
  group_from code f = record { spread = allocation policy dims facts f; count = length (facts_with dims code facts); sums = column_sums columns (facts_with dims code facts) }

  -- the rows of a group are those of the facts that have the code
  rows-at : (code : ℕ) → rows_at code ≡ sum_by rows_by (facts_with dims code facts)
  rows-at code = either (find (has_code dims code) facts) refl
    where
      either : (found : Option Fact) → find (has_code dims code) facts ≡ found → group_row_count (option_map (group_from code) found) ≡ sum_by rows_by (facts_with dims code facts)
      either None none = sym (ap (sum_by rows_by) (filter-never (has_code dims code) facts none))
      either (Some f) is =
          let here = first-passes (has_code dims code) facts f is in
          let named = first-holds (λ f. IsRegion dims f.region) (has_code dims code) facts f regions is in
          sym (sum_by-equal rows_by (rows_by f) (facts_with dims code facts)
          (All-passing (has_code dims code) (λ x. rows_by x ≡ rows_by f) facts
          (All-weaker (λ f. IsRegion dims f.region) (λ x. has_code dims code x ≡ true → rows_by x ≡ rows_by f)
          (λ x named_too passes. ap (λ (a : Allocation). length a.rows) (allocation-shared policy dims facts x f (code_of-same dims x.region f.region trees named_too named (grind (arith, nat_tests, here, passes))))) facts regions)))

  rows-of_facts : row_count (extended policy dims facts) ≡ sum_by rows_by facts
  unfolding extended
  rows-of_facts = sum_by-map (λ (e : ExtendedFact). length e.allocation.rows) (λ (f : Fact). record { id = f.id; values = f.cols; allocation = allocation policy dims facts f }) facts

  -- the rows of the groups of ascending codes
  pub rows-le : (codes : List ℕ) → ascends_from (λ code. code) 0 codes ≡ true → sum_by rows_at codes ≤ row_count (extended policy dims facts)
  rows-le codes up = omega (arith, sum_by-alike rows_at (held dims rows_by facts) codes rows-at, held-le dims rows_by facts codes up, rows-of_facts)

  pub rows_at-le : (code : ℕ) → rows_at code ≤ row_count (extended policy dims facts)
  rows_at-le code = omega (arith, rows-le (code ∷ []) (grind (arith, nat_tests)), sum_by-cons rows_at code [])
