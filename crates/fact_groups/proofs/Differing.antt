-- Sums over numbers that differ at some of them, and the rows and answers of facts whose groups differ at some codes.
use Rattle.std.proofs.Common.{◌≡◌, ℕ, zero, suc, ◌+◌, ◌*◌, ◌<◌, ◌≤◌, Bool, true, false, List, [], ◌∷◌, get_or, length, refl, ap, sym, ◌∙◌, arith, ℤ, pos, ◌+ℤ◌}
use Rattle.std.specs.Prelude.{All, filter, ◌&&◌, ◌==◌, if◌then◌else◌}
use Rattle.std.specs.List.{list_any, range_with_len, sum_by}
use Rattle.std.specs.List.Sorted.{IsStrictlyIncreasing}
use Rattle.std.specs.Option.{option_map_or}
use Rattle.std.proofs.lemmas.Bool.Decides.{nat_tests}
use Rattle.std.proofs.lemmas.Int.{ints}
use Rattle.std.proofs.lemmas.List.Sums.{get_or-le-sum_by, sum_by-cons}
use Rattle.cube_model.specs.declared.edit.Fact.{Fact}
use Rattle.cube_model.specs.Allocation.{Policy, extended, row_count}
use Rattle.cube_model.specs.Answer.{count_at, sum_at, total_by}
use Rattle.cube_model.specs.Ascending.{ascends_from}
use Rattle.cube_model.specs.Cells.{is_among}
use Rattle.cube_model.specs.Tree.{Dimension, IsTree}
use Rattle.cube_model.proofs.Ascending.{ascends_cons, ascends_filter, same_members}
use Rattle.region_algebra.specs.Space.{IsRegion, code_of}
use Rattle.fact_groups.specs.Groups.{AreGrouped, Group, HaveSameGroupsBut, count_in, group_at, group_rows, groups_at, sum_in}
use Rattle.fact_groups.proofs.Ascending.{ascends-from_increasing, once_among}
use Rattle.fact_groups.proofs.Groups.{count-grouped, count_in-sum, count_over, rows-grouped, sum-grouped, sum_by-filter_map, sum_in-total, sum_over, total_by-filter_map}
use Rattle.fact_groups.proofs.Partition.{sum_by-filter, total_by-filter}
use Rattle.fact_groups.proofs.Statistics.{among-filter}

-- numbers below a bound ascend, and are each there
ascends-range : (a n : ℕ) → ascends_from (λ x. x) a (range_with_len a n) ≡ true
ascends-range a zero = refl
ascends-range a (suc n) = ascends_cons (λ (x : ℕ). x) a a (range_with_len (a + 1) n) (record { from = omega arith; others = ascends-range (a + 1) n })

among-range : (a n x : ℕ) → a ≤ x → x < a + n → (is_among (range_with_len a n) x ≡ true) × (list_any (λ y. x == y) (range_with_len a n) ≡ true)
among-range a zero x from below = absurd (omega (arith, from, below))
among-range a (suc n) x from below = either (a == x) refl (λ above. among-range (a + 1) n x above (omega (arith, below)))
  where
    either : (b : Bool) → (a == x) ≡ b → (a + 1 ≤ x → (is_among (range_with_len (a + 1) n) x ≡ true) × (list_any (λ y. x == y) (range_with_len (a + 1) n) ≡ true))
        → (is_among (range_with_len a (suc n)) x ≡ true) × (list_any (λ y. x == y) (range_with_len a (suc n)) ≡ true)
    either true is rest_of = (grind (arith, nat_tests), grind (arith, nat_tests))
    either false is rest_of =
        let above : a + 1 ≤ x = grind (arith, nat_tests) in
        let rest = rest_of above in
        (grind (arith, nat_tests, rest.0), grind (arith, nat_tests, rest.1))

-- numbers of which some lie among all are what is left of all
left-of-all : (least from : ℕ) (some all : List ℕ) → ascends_from (λ x. x) least some ≡ true → ascends_from (λ x. x) from all ≡ true → ((x : ℕ) → is_among some x ≡ true → is_among all x ≡ true)
    → some ≡ filter (is_among some) all
left-of-all least from some all up all_up within =
    same_members least from some (filter (is_among some) all) up (ascends_filter (λ (x : ℕ). x) (is_among some) from all all_up)
    (λ x. sym (among-filter (is_among some) all x ∙ either (is_among some x) (is_among all x) (within x)))
  where
    either : (a b : Bool) → (a ≡ true → b ≡ true) → (a && b) ≡ a
    either true b is = is refl
    either false b is = refl

-- sums of what is the same elsewhere
exchange : (f g : ℕ → ℕ) (some : List ℕ) (all : List ℕ) → ((x : ℕ) → is_among some x ≡ false → f x ≡ g x)
    → sum_by g all + sum_by (λ x. if is_among some x then f x else 0) all ≡ sum_by f all + sum_by (λ x. if is_among some x then g x else 0) all
exchange f g some [] same = refl
exchange f g some (x ∷ all) same =
    let here = either (is_among some x) (f x) (g x) (same x) in
    omega (
      arith,
      here,
      exchange f g some all same,
      sum_by-cons f x all,
      sum_by-cons g x all,
      sum_by-cons (λ x. if is_among some x then f x else 0) x all,
      sum_by-cons (λ x. if is_among some x then g x else 0) x all,
    )
  where
    either : (b : Bool) (m n : ℕ) → (b ≡ false → m ≡ n) → n + (if b then m else 0) ≡ m + (if b then n else 0)
    either true m n is = omega arith
    either false m n is = omega (arith, is refl)

pub sums_differ : (f g : ℕ → ℕ) (least from : ℕ) (some all : List ℕ) → ascends_from (λ x. x) least some ≡ true → ascends_from (λ x. x) from all ≡ true → ((x : ℕ) → is_among some x ≡ true → is_among all x ≡ true)
    → ((x : ℕ) → is_among some x ≡ false → f x ≡ g x) → sum_by g all + sum_by f some ≡ sum_by f all + sum_by g some
sums_differ f g least from some all up all_up within same =
    let left = left-of-all least from some all up all_up within in
    omega (
      arith,
      ap (sum_by f) left,
      ap (sum_by g) left,
      sum_by-filter (is_among some) f all,
      sum_by-filter (is_among some) g all,
      exchange f g some all same,
    )

-- the same of whole numbers
exchange_totals : (f g : ℕ → ℤ) (some : List ℕ) (all : List ℕ) → ((x : ℕ) → is_among some x ≡ false → f x ≡ g x)
    → total_by g all +ℤ total_by (λ x. if is_among some x then f x else pos 0) all ≡ total_by f all +ℤ total_by (λ x. if is_among some x then g x else pos 0) all
exchange_totals f g some [] same = refl
exchange_totals f g some (x ∷ all) same =
    let here = either (is_among some x) (f x) (g x) (same x) in
    let others = exchange_totals f g some all same in
    omega (arith, ints, here, others)
  where
    either : (b : Bool) (m n : ℤ) → (b ≡ false → m ≡ n) → n +ℤ (if b then m else pos 0) ≡ m +ℤ (if b then n else pos 0)
    either true m n is = omega (arith, ints)
    either false m n is = let equal = is refl in omega (arith, ints, equal)

pub totals_differ : (f g : ℕ → ℤ) (least from : ℕ) (some all : List ℕ) → ascends_from (λ x. x) least some ≡ true → ascends_from (λ x. x) from all ≡ true → ((x : ℕ) → is_among some x ≡ true → is_among all x ≡ true)
    → ((x : ℕ) → is_among some x ≡ false → f x ≡ g x) → total_by g all +ℤ total_by f some ≡ total_by f all +ℤ total_by g some
totals_differ f g least from some all up all_up within same =
    let left = left-of-all least from some all up all_up within in
    let first = ap (total_by f) left ∙ total_by-filter (is_among some) f all in
    let second = ap (total_by g) left ∙ total_by-filter (is_among some) g all in
    let changed = exchange_totals f g some all same in
    omega (arith, ints, first, second, changed)

-- a number among others is at most their sum
among-le : (xs : List ℕ) (x : ℕ) → is_among xs x ≡ true → x ≤ sum_by (λ x. x) xs
among-le [] x among = absurd (grind arith)
among-le (y ∷ xs) x among = either (y == x) refl (among-le xs x)
  where
    either : (b : Bool) → (y == x) ≡ b → (is_among xs x ≡ true → x ≤ sum_by (λ x. x) xs) → x ≤ sum_by (λ x. x) (y ∷ xs)
    either true is rest_of = let its : y ≡ x = grind (arith, nat_tests) in omega (arith, its, sum_by-cons (λ (x : ℕ). x) y xs)
    either false is rest_of = let rest : is_among xs x ≡ true = rw is at among in omega (arith, rest_of rest, sum_by-cons (λ (x : ℕ). x) y xs)

-- facts are grouped by all numbers below a bound that no code reaches
grouped-below : (dims : List Dimension) (facts : List Fact) (n : ℕ) → All IsTree dims → All (λ f. IsRegion dims f.region) facts → All (λ f. code_of dims f.region < n) facts → AreGrouped dims facts (range_with_len 0 n)
grouped-below dims facts n trees regions below = record {
  trees = trees;
  regions = regions;
  held = λ k d within.
      let code = code_of dims (get_or facts k d).region in
      once_among 0 (range_with_len 0 n) (ascends-range 0 n) code ∙ ap (λ (b : Bool). if b then 1 else 0) (among-range 0 n code (omega arith) (omega (arith, below k d within))).1;
}

-- so what is a sum over the groups of facts differs by the groups that differ
module _ (policy : Policy) (columns : ℕ) (dims : List Dimension) (facts later : List Fact) (codes : List ℕ)
    (trees : All IsTree dims) (regions : All (λ f. IsRegion dims f.region) facts) (later_regions : All (λ f. IsRegion dims f.region) later) (up : IsStrictlyIncreasing codes)
    (same : HaveSameGroupsBut codes policy columns dims facts later) where
  abbrev groups_of : List Fact → List ℕ → List Group
  groups_of among some = groups_at policy columns dims among some

  -- numbers below a bound that no code reaches
  bound : ℕ
  bound = sum_by (λ f. code_of dims f.region) facts + sum_by (λ f. code_of dims f.region) later + sum_by (λ (x : ℕ). x) codes + 1

  abbrev all_codes : List ℕ
  all_codes = range_with_len 0 bound

  before : AreGrouped dims facts all_codes
  unfolding bound
  before = grouped-below dims facts bound trees regions (λ k d within. omega (arith, get_or-le-sum_by (λ (f : Fact). code_of dims f.region) facts k d within))

  now : AreGrouped dims later all_codes
  unfolding bound
  now = grouped-below dims later bound trees later_regions (λ k d within. omega (arith, get_or-le-sum_by (λ (f : Fact). code_of dims f.region) later k d within))

  codes_within : (x : ℕ) → is_among codes x ≡ true → is_among all_codes x ≡ true
  unfolding bound
  codes_within x among = (among-range 0 bound x (omega arith) (omega (arith, among-le codes x among))).0

  abbrev at_code : {Z : Type 0} → (Group → Z) → Z → List Fact → ℕ → Z
  at_code value none among code = option_map_or value (group_at policy columns dims among code) none

  sums-apart : (value : Group → ℕ) → sum_by value (groups_of later all_codes) + sum_by value (groups_of facts codes) ≡ sum_by value (groups_of facts all_codes) + sum_by value (groups_of later codes)
  sums-apart value =
      omega (
        arith,
        sum_by-filter_map value (group_at policy columns dims facts) all_codes,
        sum_by-filter_map value (group_at policy columns dims later) all_codes,
        sum_by-filter_map value (group_at policy columns dims facts) codes,
        sum_by-filter_map value (group_at policy columns dims later) codes,
        sums_differ (at_code value 0 facts) (at_code value 0 later) 0 0 codes all_codes (ascends-from_increasing codes up) (ascends-range 0 bound) codes_within
            (λ x other. ap (λ o. option_map_or value o 0) (sym (same x other))),
      )

  totals-apart : (value : Group → ℤ) → total_by value (groups_of later all_codes) +ℤ total_by value (groups_of facts codes) ≡ total_by value (groups_of facts all_codes) +ℤ total_by value (groups_of later codes)
  totals-apart value =
      let all_before = total_by-filter_map value (group_at policy columns dims facts) all_codes in
      let all_now = total_by-filter_map value (group_at policy columns dims later) all_codes in
      let some_before = total_by-filter_map value (group_at policy columns dims facts) codes in
      let some_now = total_by-filter_map value (group_at policy columns dims later) codes in
      let changed = totals_differ (at_code value (pos 0) facts) (at_code value (pos 0) later) 0 0 codes all_codes (ascends-from_increasing codes up) (ascends-range 0 bound) codes_within
      (λ x other. ap (λ o. option_map_or value o (pos 0)) (sym (same x other))) in
      omega (arith, ints, all_before, all_now, some_before, some_now, changed)

  pub rows-differ : row_count (extended policy dims later) + group_rows (groups_of facts codes) ≡ row_count (extended policy dims facts) + group_rows (groups_of later codes)
  rows-differ =
      omega (arith, rows-grouped policy columns dims facts all_codes before, rows-grouped policy columns dims later all_codes now, sums-apart (λ g. g.count * length g.spread.rows))

  module _ (cells : List ℕ) (den : ℕ) where
    pub counts-differ : count_at cells (extended policy dims later) den + count_in cells (groups_of facts codes) den ≡ count_at cells (extended policy dims facts) den + count_in cells (groups_of later codes) den
    counts-differ =
        omega (
          arith,
          count-grouped policy columns dims facts all_codes before cells den,
          count-grouped policy columns dims later all_codes now cells den,
          count_in-sum cells den (groups_of facts all_codes),
          count_in-sum cells den (groups_of later all_codes),
          count_in-sum cells den (groups_of facts codes),
          count_in-sum cells den (groups_of later codes),
          sums-apart (count_over cells den),
        )

  module _ (cells : List ℕ) (column den : ℕ) (within : column < columns) where
    pub columns-differ : sum_at cells (extended policy dims later) column den +ℤ sum_in cells (groups_of facts codes) column den ≡ sum_at cells (extended policy dims facts) column den +ℤ sum_in cells (groups_of later codes) column den
    columns-differ =
        let all_before = sum-grouped policy columns dims facts all_codes before cells column den within ∙ sum_in-total cells column den (groups_of facts all_codes) in
        let all_now = sum-grouped policy columns dims later all_codes now cells column den within ∙ sum_in-total cells column den (groups_of later all_codes) in
        let some_before = sum_in-total cells column den (groups_of facts codes) in
        let some_now = sum_in-total cells column den (groups_of later codes) in
        let changed = totals-apart (sum_over cells column den) in
        omega (arith, ints, all_before, all_now, some_before, some_now, changed)
