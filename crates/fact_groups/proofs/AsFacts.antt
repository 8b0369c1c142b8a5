-- Groups answer as facts do that are spread alike.
use Rattle.std.proofs.Common.{◌≡◌, ℕ, zero, suc, ◌+◌, ◌*◌, ◌-◌, ◌<◌, ◌≤◌, Bool, true, false, List, [], ◌∷◌, get_or, length, replicate, refl, ap, sym, ◌∙◌, arith, ℤ, pos, ◌+ℤ◌, ◌*ℤ◌}
use Rattle.std.specs.Prelude.{All, Option, Some, None, find, nat_lt, slice_index_or, ◌==◌, if◌then◌else◌}
use Rattle.std.specs.List.{cons_option, flat_map, sum_by}
use Rattle.std.specs.List.Sorted.{IsStrictlyIncreasing}
use Rattle.std.specs.Option.{option_map}
use Rattle.std.proofs.lemmas.Bool.Decides.{nat_tests}
use Rattle.std.proofs.lemmas.Int.{ints}
use Rattle.std.proofs.lemmas.List.{get_or_past}
use Rattle.std.proofs.lemmas.List.Elements.{All-cons, All-head, All-nil, All-tail}
use Rattle.std.proofs.lemmas.List.Folds.{sum_by-replicate}
use Rattle.std.proofs.lemmas.List.FromFn.{length-map-range_with_len}
use Rattle.std.proofs.lemmas.List.Sums.{sum_by-append, sum_by-cons}
use Rattle.std.proofs.Math.IntN.{*ℤ-zero}
use Rattle.cube_model.specs.declared.edit.Fact.{Fact}
use Rattle.cube_model.specs.Allocation.{ExtendedFact, Policy, allocation, extended}
use Rattle.cube_model.specs.Answer.{count_at, sum_at, total_by, weight_inside}
use Rattle.cube_model.specs.Tree.{Dimension, IsTree}
use Rattle.cube_model.proofs.Totals.{total_by-append, total_by-nothing, total_by-same}
use Rattle.region_algebra.specs.Space.{IsRegion}
use Rattle.fact_groups.specs.Groups.{Group, HaveSameGroupsBut, column_sums, count_in, fact_over, facts_with, group_facts, groups_at, has_code, sum_in}
use Rattle.fact_groups.proofs.Differing.{columns-differ, counts-differ}
use Rattle.fact_groups.proofs.Groups.{count_in-sum, count_over, some-passes, sum_in-total, sum_over, total_by-map}
use Rattle.fact_groups.proofs.Partition.{sum_by-filter, total_by-filter}

-- so many times nothing
total_by-zeros : {X : Type 0} (f : X → ℤ) (n : ℕ) (x : X) → f x ≡ pos 0 → total_by f (replicate n x) ≡ pos 0
total_by-zeros f zero x none = refl
total_by-zeros f (suc n) x none = let others = total_by-zeros f n x none in omega (arith, ints, none, others)

zero-at : (n i : ℕ) → slice_index_or (replicate n (pos 0)) i (pos 0) ≡ pos 0
zero-at zero i = refl
zero-at (suc n) zero = refl
zero-at (suc n) (suc i) = zero-at n i

nothing-if : (b : Bool) (w : ℕ) (z : ℤ) → z ≡ pos 0 → (if b then pos w *ℤ z else pos 0) ≡ pos 0
nothing-if true w z none = ap (λ z. pos w *ℤ z) none ∙ *ℤ-zero (pos w)
nothing-if false w z none = refl

-- the facts that a group is answer as it does
module _ (cells : List ℕ) (den : ℕ) where
  abbrev inside : ExtendedFact → ℕ
  inside e = if e.allocation.den == den then weight_inside cells e.allocation else 0

  one_and_more : (b : Bool) (m w : ℕ) → (if b then w else 0) + m * (if b then w else 0) ≡ (if b then (m + 1) * w else 0)
  one_and_more true m w = omega arith
  one_and_more false m w = omega arith

  one_group : (g : Group) → 1 ≤ g.count → sum_by inside (group_facts g) ≡ count_over cells den g
  one_group g some =
      let zeros = fact_over g.spread (replicate (length g.sums) (pos 0)) in
      let left : g.count - 1 + 1 ≡ g.count = omega (arith, some) in
      sum_by-cons inside (fact_over g.spread g.sums) (replicate (g.count - 1) zeros)
      ∙ ap (λ n. inside (fact_over g.spread g.sums) + n) (sum_by-replicate inside (g.count - 1) zeros)
      ∙ one_and_more (g.spread.den == den) (g.count - 1) (weight_inside cells g.spread)
      ∙ ap (λ n. if g.spread.den == den then n * weight_inside cells g.spread else 0) left

  each_group : (groups : List Group) → All (λ g. 1 ≤ g.count) groups → sum_by inside (flat_map group_facts groups) ≡ sum_by (count_over cells den) groups
  each_group [] some = refl
  each_group (g ∷ groups) some =
      omega (
        arith,
        sum_by-append inside (group_facts g) (flat_map group_facts groups),
        sum_by-cons (count_over cells den) g groups,
        one_group g (All-head (λ g. 1 ≤ g.count) g groups some),
        each_group groups (All-tail (λ g. 1 ≤ g.count) g groups some),
      )

  pub count-as_facts : (groups : List Group) → All (λ g. 1 ≤ g.count) groups → count_at cells (flat_map group_facts groups) den ≡ count_in cells groups den
  count-as_facts groups some =
      sum_by-filter (λ (e : ExtendedFact). e.allocation.den == den) (λ e. weight_inside cells e.allocation) (flat_map group_facts groups) ∙ each_group groups some ∙ sym (count_in-sum cells den groups)

module _ (cells : List ℕ) (column den : ℕ) where
  abbrev part : ExtendedFact → ℤ
  part e = if e.allocation.den == den then pos (weight_inside cells e.allocation) *ℤ slice_index_or e.values column (pos 0) else pos 0

  one_sum : (g : Group) → total_by part (group_facts g) ≡ sum_over cells column den g
  one_sum g =
      let zeros = fact_over g.spread (replicate (length g.sums) (pos 0)) in
      let none : part zeros ≡ pos 0 = nothing-if (g.spread.den == den) (weight_inside cells g.spread) (slice_index_or (replicate (length g.sums) (pos 0)) column (pos 0)) (zero-at (length g.sums) column) in
      let others = total_by-zeros part (g.count - 1) zeros none in
      omega (arith, ints, others)

  each_sum : (groups : List Group) → total_by part (flat_map group_facts groups) ≡ total_by (sum_over cells column den) groups
  each_sum [] = refl
  each_sum (g ∷ groups) =
      total_by-append part (group_facts g) (flat_map group_facts groups) ∙ ap (λ z. z +ℤ total_by part (flat_map group_facts groups)) (one_sum g) ∙ ap (λ z. sum_over cells column den g +ℤ z) (each_sum groups)

  pub sum-as_facts : (groups : List Group) → sum_at cells (flat_map group_facts groups) column den ≡ sum_in cells groups column den
  sum-as_facts groups =
      total_by-filter (λ (e : ExtendedFact). e.allocation.den == den) (λ e. pos (weight_inside cells e.allocation) *ℤ slice_index_or e.values column (pos 0)) (flat_map group_facts groups)
      ∙ each_sum groups
      ∙ sym (sum_in-total cells column den groups)

  -- behind the values there is nothing, of facts and of groups
  sum-past_facts : (policy : Policy) (dims : List Dimension) (facts : List Fact) → All (λ f. length f.cols ≤ column) facts → sum_at cells (extended policy dims facts) column den ≡ pos 0
  unfolding extended
  sum-past_facts policy dims facts short =
      let as_extended : Fact → ExtendedFact = λ f. record { id = f.id; values = f.cols; allocation = allocation policy dims facts f } in
      total_by-filter (λ (e : ExtendedFact). e.allocation.den == den) (λ e. pos (weight_inside cells e.allocation) *ℤ slice_index_or e.values column (pos 0)) (extended policy dims facts)
      ∙ total_by-map part as_extended facts
      ∙ total_by-same (λ f. part (as_extended f)) (λ f. pos 0) facts
      (λ k d within.
      let f = get_or facts k d in
      nothing-if ((allocation policy dims facts f).den == den) (weight_inside cells (allocation policy dims facts f)) (slice_index_or f.cols column (pos 0)) (get_or_past f.cols column (pos 0) (short k d within)))
      ∙ total_by-nothing facts

  sum-past_groups : (groups : List Group) → All (λ g. slice_index_or g.sums column (pos 0) ≡ pos 0) groups → sum_in cells groups column den ≡ pos 0
  sum-past_groups groups none =
      sum_in-total cells column den groups
      ∙ total_by-same (sum_over cells column den) (λ g. pos 0) groups
      (λ k d within.
      let g = get_or groups k d in
      nothing-if (g.spread.den == den) (weight_inside cells g.spread) (slice_index_or g.sums column (pos 0)) (none k d within))
      ∙ total_by-nothing groups

-- what holds of each group that facts have
module _ (policy : Policy) (columns : ℕ) (dims : List Dimension) (facts : List Fact) where
  abbrev group_from : ℕ → Fact → Group
  group_from code f = record { spread = allocation policy dims facts f; count = length (facts_with dims code facts); sums = column_sums columns (facts_with dims code facts) }

  each_found : (P : Group → Type 0) → ((code : ℕ) (f : Fact) → find (has_code dims code) facts ≡ Some f → P (group_from code f)) → (codes : List ℕ) → All P (groups_at policy columns dims facts codes)
  each_found P each [] = All-nil P
  each_found P each (code ∷ codes) = either (find (has_code dims code) facts) refl (each_found P each codes)
    where
      either : (o : Option Fact) → find (has_code dims code) facts ≡ o → All P (groups_at policy columns dims facts codes) → All P (cons_option (option_map (group_from code) o) (groups_at policy columns dims facts codes))
      either None is rest = rest
      either (Some f) is rest = All-cons P (group_from code f) (groups_at policy columns dims facts codes) (each code f is) rest

  pub some-facts : (codes : List ℕ) → All (λ g. 1 ≤ g.count) (groups_at policy columns dims facts codes)
  some-facts = each_found (λ g. 1 ≤ g.count) (λ code f found. let some = some-passes (has_code dims code) facts f found in grind (arith, nat_tests, some))

  past-columns : (column : ℕ) → columns ≤ column → (codes : List ℕ) → All (λ g. slice_index_or g.sums column (pos 0) ≡ pos 0) (groups_at policy columns dims facts codes)
  past-columns column past =
      each_found (λ g. slice_index_or g.sums column (pos 0) ≡ pos 0) (λ code f found.
      get_or_past (column_sums columns (facts_with dims code facts)) column (pos 0)
      (omega (arith, length-map-range_with_len (λ column. total_by (λ f. slice_index_or f.cols column (pos 0)) (facts_with dims code facts)) 0 columns)))

-- facts of which the groups differ at some codes are the earlier ones with the facts of the one and without those of the other
module _ (policy : Policy) (columns : ℕ) (dims : List Dimension) (facts later : List Fact) (codes : List ℕ)
    (trees : All IsTree dims) (regions : All (λ f. IsRegion dims f.region) facts) (later_regions : All (λ f. IsRegion dims f.region) later) (up : IsStrictlyIncreasing codes)
    (same : HaveSameGroupsBut codes policy columns dims facts later) where
  abbrev facts_of : List Fact → List ExtendedFact
  facts_of among = flat_map group_facts (groups_at policy columns dims among codes)

  pub counts-follow : (cells : List ℕ) (den : ℕ) → count_at cells (extended policy dims later) den + count_at cells (facts_of facts) den ≡ count_at cells (extended policy dims facts) den + count_at cells (facts_of later) den
  counts-follow cells den =
      omega (
        arith,
        count-as_facts cells den (groups_at policy columns dims facts codes) (some-facts policy columns dims facts codes),
        count-as_facts cells den (groups_at policy columns dims later codes) (some-facts policy columns dims later codes),
        counts-differ policy columns dims facts later codes trees regions later_regions up same cells den,
      )

  module _ (short : All (λ f. length f.cols ≤ columns) facts) (later_short : All (λ f. length f.cols ≤ columns) later) (cells : List ℕ) (column den : ℕ) where
    within-columns : column < columns
        → sum_at cells (extended policy dims later) column den +ℤ sum_at cells (facts_of facts) column den ≡ sum_at cells (extended policy dims facts) column den +ℤ sum_at cells (facts_of later) column den
    within-columns within =
        let was = sum-as_facts cells column den (groups_at policy columns dims facts codes) in
        let is = sum-as_facts cells column den (groups_at policy columns dims later codes) in
        let differ = columns-differ policy columns dims facts later codes trees regions later_regions up same cells column den within in
        omega (arith, ints, was, is, differ)

    beyond-columns : columns ≤ column
        → sum_at cells (extended policy dims later) column den +ℤ sum_at cells (facts_of facts) column den ≡ sum_at cells (extended policy dims facts) column den +ℤ sum_at cells (facts_of later) column den
    beyond-columns past =
        let was = sum-as_facts cells column den (groups_at policy columns dims facts codes) ∙ sum-past_groups cells column den (groups_at policy columns dims facts codes) (past-columns policy columns dims facts column past codes) in
        let is = sum-as_facts cells column den (groups_at policy columns dims later codes) ∙ sum-past_groups cells column den (groups_at policy columns dims later codes) (past-columns policy columns dims later column past codes) in
        let before = sum-past_facts cells column den policy dims facts (λ k d in_facts. omega (arith, short k d in_facts)) in
        let now = sum-past_facts cells column den policy dims later (λ k d in_later. omega (arith, later_short k d in_later)) in
        omega (arith, ints, was, is, before, now)

    pub sums-follow : sum_at cells (extended policy dims later) column den +ℤ sum_at cells (facts_of facts) column den ≡ sum_at cells (extended policy dims facts) column den +ℤ sum_at cells (facts_of later) column den
    sums-follow = either (nat_lt column columns) refl
      where
        either : (b : Bool) → nat_lt column columns ≡ b
            → sum_at cells (extended policy dims later) column den +ℤ sum_at cells (facts_of facts) column den ≡ sum_at cells (extended policy dims facts) column den +ℤ sum_at cells (facts_of later) column den
        either true is = let within : column < columns = grind (arith, nat_tests) in within-columns within
        either false is = let past : columns ≤ column = grind (arith, nat_tests) in beyond-columns past
