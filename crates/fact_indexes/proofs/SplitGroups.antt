-- Facts are those of the groups at some codes and those of the groups at all others.
use Rattle.std.proofs.Common.{◌≡◌, ℕ, zero, suc, ◌+◌, ◌<◌, ◌≤◌, Bool, true, false, List, [], ◌∷◌, ◌++◌, get_or, length, refl, ap, sym, ◌∙◌, arith, ◌+ℤ◌}
use Rattle.std.specs.Prelude.{All, filter, find, not, ◌==◌, if◌then◌else◌, Option, Some, None}
use Rattle.std.specs.List.{count_by, list_any, range_with_len}
use Rattle.std.specs.Option.{option_map, option_map_or}
use Rattle.std.proofs.lemmas.Bool.Decides.{nat_tests}
use Rattle.std.proofs.lemmas.Int.{ints}
use Rattle.std.proofs.lemmas.List.Elements.{filter_map-append}
use Rattle.std.proofs.lemmas.List.Sums.{sum_by-append, sum_by-le-sum_by}
use Rattle.cube_model.specs.declared.edit.Fact.{Fact}
use Rattle.cube_model.specs.Allocation.{Policy, allocation, extended}
use Rattle.cube_model.specs.Answer.{count_at, sum_at}
use Rattle.cube_model.specs.Ascending.{ascends_from}
use Rattle.cube_model.specs.Cells.{is_among}
use Rattle.cube_model.specs.Tree.{Dimension, IsTree}
use Rattle.cube_model.proofs.Ascending.{ascends_cons, ascends_filter}
use Rattle.cube_model.proofs.Totals.{total_by-append}
use Rattle.region_algebra.specs.Space.{IsRegion, code_of, region_total}
use Rattle.region_algebra.proofs.Tuples.{region-at_code, region-below}
use Rattle.fact_groups.specs.Groups.{AreGrouped, Group, HaveSameGroupsBut, column_sums, count_in, facts_with, group_at, groups_at, has_code, sum_in}
use Rattle.fact_groups.proofs.Ascending.{once_among}
use Rattle.fact_groups.proofs.Groups.{count-grouped, count_in-sum, count_over, sum-grouped, sum_by-filter_map, sum_in-total, sum_over}
use Rattle.fact_groups.proofs.Partition.{lengths_over_keys}
use Rattle.fact_indexes.proofs.Modest.{members}

-- the codes of regions that are not among these
abbrev pub others_of : List Dimension → List ℕ → List ℕ
others_of dims codes = filter (λ code. not (is_among codes code)) (range_with_len 0 (region_total dims))

ascends-range : (a n : ℕ) → ascends_from (λ x. x) a (range_with_len a n) ≡ true
ascends-range a zero = refl
ascends-range a (suc n) = ascends_cons (λ (x : ℕ). x) a a (range_with_len (a + 1) n) (record { from = omega arith; others = ascends-range (a + 1) n })

-- a number of a range is left by a filter that it passes
left-in_range : (p : ℕ → Bool) (a n x : ℕ) → a ≤ x → x < a + n → list_any (λ y. x == y) (filter p (range_with_len a n)) ≡ p x
left-in_range p a zero x from below = absurd (omega (arith, from, below))
left-in_range p a (suc n) x from below = by (a == x) (p a) refl refl (λ above. left-in_range p (a + 1) n x above (omega (arith, below)))
  where
    past : (b : Bool) → (x == a) ≡ false → list_any (λ y. x == y) (if b then a ∷ filter p (range_with_len (a + 1) n) else filter p (range_with_len (a + 1) n)) ≡ list_any (λ y. x == y) (filter p (range_with_len (a + 1) n))
    past true other = grind (arith, nat_tests, other)
    past false other = refl

    none : (c m : ℕ) → x < c → list_any (λ y. x == y) (filter p (range_with_len c m)) ≡ false
    none c zero below = refl
    none c (suc m) below = skip (p c) (none (c + 1) m (omega (arith, below)))
      where
        skip : (b : Bool) → list_any (λ y. x == y) (filter p (range_with_len (c + 1) m)) ≡ false → list_any (λ y. x == y) (if b then c ∷ filter p (range_with_len (c + 1) m) else filter p (range_with_len (c + 1) m)) ≡ false
        skip true rest = grind (arith, nat_tests, rest)
        skip false rest = rest

    by : (same passes : Bool) → (a == x) ≡ same → p a ≡ passes → (a + 1 ≤ x → list_any (λ y. x == y) (filter p (range_with_len (a + 1) n)) ≡ p x) → list_any (λ y. x == y) (filter p (range_with_len a (suc n))) ≡ p x
    by true true same is rest =
        let its : a ≡ x = grind (arith, nat_tests, same) in
        rw is (grind (arith, nat_tests, ap p its, is))
    by true false same is rest =
        let its : a ≡ x = grind (arith, nat_tests, same) in
        rw is (none (a + 1) n (omega (arith, its)) ∙ sym (sym (ap p its) ∙ is))
    by false passes same is rest =
        let other : (x == a) ≡ false = grind (arith, nat_tests, same) in
        past (p a) other ∙ rest (grind (arith, nat_tests, same, from))

among-turned : (xs : List ℕ) (c : ℕ) → list_any (λ x. c == x) xs ≡ is_among xs c
among-turned [] c = refl
among-turned (x ∷ xs) c = grind (arith, nat_tests, among-turned xs c)

-- each code of a region is once among the codes and the others
once-split : (dims : List Dimension) (codes : List ℕ) (code : ℕ) → ascends_from (λ x. x) 0 codes ≡ true → code < region_total dims → count_by (λ c. code == c) (codes ++ others_of dims codes) ≡ 1
once-split dims codes code up within =
    let n = region_total dims in
    let left = left-in_range (λ c. not (is_among codes c)) 0 n code (omega arith) (omega (arith, within)) in
    let first = once_among 0 codes up code ∙ ap (λ (b : Bool). if b then 1 else 0) (among-turned codes code) in
    let second = once_among 0 (others_of dims codes) (ascends_filter (λ (x : ℕ). x) (λ c. not (is_among codes c)) 0 (range_with_len 0 n) (ascends-range 0 n)) code ∙ ap (λ (b : Bool). if b then 1 else 0) left in
    omega (arith, sum_by-append (λ c. if code == c then 1 else 0) codes (others_of dims codes), first, second, one (is_among codes code))
  where
    one : (b : Bool) → (if b then 1 else 0) + (if not b then 1 else 0) ≡ 1
    one true = refl
    one false = refl

-- groups have no more facts than there are
members-at : (policy : Policy) (columns : ℕ) (dims : List Dimension) (facts : List Fact) (code : ℕ) → option_map_or (λ g. g.count) (group_at policy columns dims facts code) 0 ≤ length (facts_with dims code facts)
members-at policy columns dims facts code = by (find (has_code dims code) facts)
  where
    by : (found : Option Fact) → option_map_or (λ (g : Group). g.count) (option_map (λ f. record { spread = allocation policy dims facts f; count = length (facts_with dims code facts); sums = column_sums columns (facts_with dims code facts) }) found) 0 ≤ length (facts_with dims code facts)
    by None = omega arith
    by (Some f) = omega arith

pub members-grouped : (policy : Policy) (columns : ℕ) (dims : List Dimension) (facts : List Fact) (codes : List ℕ) → AreGrouped dims facts codes → members (groups_at policy columns dims facts codes) ≤ length facts
members-grouped policy columns dims facts codes grouped =
    omega (
      arith,
      sum_by-filter_map (λ (g : Group). g.count) (group_at policy columns dims facts) codes,
      sum_by-le-sum_by (λ code. option_map_or (λ (g : Group). g.count) (group_at policy columns dims facts code) 0) (λ code. length (facts_with dims code facts)) codes (members-at policy columns dims facts),
      lengths_over_keys (has_code dims) codes facts grouped.held,
    )

module _ (policy : Policy) (columns : ℕ) (dims : List Dimension) (codes : List ℕ) (trees : All IsTree dims) (up : ascends_from (λ x. x) 0 codes ≡ true) where
  abbrev groups_in : List Fact → List ℕ → List Group
  groups_in facts some = groups_at policy columns dims facts some

  module _ (facts : List Fact) (regions : All (λ f. IsRegion dims f.region) facts) where
    pub split-grouped : AreGrouped dims facts (codes ++ others_of dims codes)
    split-grouped = record {
      trees = trees;
      regions = regions;
      held = λ k d within.
          let region = (get_or facts k d).region in
          once-split dims codes (code_of dims region) up (region-below dims (code_of dims region) region (region-at_code dims region trees (regions k d within)));
    }

    split-groups : groups_in facts (codes ++ others_of dims codes) ≡ groups_in facts codes ++ groups_in facts (others_of dims codes)
    split-groups = filter_map-append (group_at policy columns dims facts) codes (others_of dims codes)

    pub counts-split : (cells : List ℕ) (den : ℕ) → count_at cells (extended policy dims facts) den ≡ count_in cells (groups_in facts codes) den + count_in cells (groups_in facts (others_of dims codes)) den
    counts-split cells den =
        omega (
          arith,
          count-grouped policy columns dims facts (codes ++ others_of dims codes) split-grouped cells den,
          ap (λ (groups : List Group). count_in cells groups den) split-groups,
          count_in-sum cells den (groups_in facts codes ++ groups_in facts (others_of dims codes)),
          sum_by-append (count_over cells den) (groups_in facts codes) (groups_in facts (others_of dims codes)),
          count_in-sum cells den (groups_in facts codes),
          count_in-sum cells den (groups_in facts (others_of dims codes)),
        )

    pub sums-split : (cells : List ℕ) (column den : ℕ) → column < columns → sum_at cells (extended policy dims facts) column den ≡ sum_in cells (groups_in facts codes) column den +ℤ sum_in cells (groups_in facts (others_of dims codes)) column den
    sums-split cells column den within =
        let whole = sum-grouped policy columns dims facts (codes ++ others_of dims codes) split-grouped cells column den within in
        let split = ap (λ (groups : List Group). sum_in cells groups column den) split-groups in
        let parts = sum_in-total cells column den (groups_in facts codes ++ groups_in facts (others_of dims codes)) ∙ total_by-append (sum_over cells column den) (groups_in facts codes) (groups_in facts (others_of dims codes)) in
        let first = sum_in-total cells column den (groups_in facts codes) in
        let second = sum_in-total cells column den (groups_in facts (others_of dims codes)) in
        omega (arith, ints, whole, split, parts, first, second)

    pub members-split : members (groups_in facts codes) + members (groups_in facts (others_of dims codes)) ≤ length facts
    members-split =
        omega (
          arith,
          ap members split-groups,
          sum_by-append (λ (g : Group). g.count) (groups_in facts codes) (groups_in facts (others_of dims codes)),
          members-grouped policy columns dims facts (codes ++ others_of dims codes) split-grouped,
        )

  -- the groups at the others are those of any facts that have the same groups there
  pub others-same : (facts later : List Fact) → HaveSameGroupsBut codes policy columns dims facts later → groups_in later (others_of dims codes) ≡ groups_in facts (others_of dims codes)
  others-same facts later same = of_range (range_with_len 0 (region_total dims))
    where
      of_range : (some : List ℕ) → groups_in later (filter (λ c. not (is_among codes c)) some) ≡ groups_in facts (filter (λ c. not (is_among codes c)) some)
      of_range [] = refl
      of_range (code ∷ some) = by (is_among codes code) refl (of_range some)
        where
          by : (b : Bool) → is_among codes code ≡ b → groups_in later (filter (λ c. not (is_among codes c)) some) ≡ groups_in facts (filter (λ c. not (is_among codes c)) some)
              → groups_in later (if not b then code ∷ filter (λ c. not (is_among codes c)) some else filter (λ c. not (is_among codes c)) some)
              ≡ groups_in facts (if not b then code ∷ filter (λ c. not (is_among codes c)) some else filter (λ c. not (is_among codes c)) some)
          by true is rest = rest
          by false is rest = rw (same code is, rest) refl
