-- The groups of facts that a cube may have are modest.
use Rattle.std.proofs.Common.{◌≡◌, ℕ, suc, ◌+◌, ◌*◌, ◌<◌, ◌≤◌, Bool, true, false, List, [], ◌∷◌, length, refl, ap, sym, subst, arith, inl, inr, ℤ, pos, ◌+ℤ◌}
use Rattle.std.specs.Prelude.{All, find, filter, nat_abs, slice_index_or, ◌==◌, if◌then◌else◌, Option, Some, None}
use Rattle.std.specs.List.{cons_option, sum_by}
use Rattle.std.proofs.lemmas.Bool.{cases_lt}
use Rattle.std.proofs.lemmas.Bool.Decides.{nat_tests}
use Rattle.std.proofs.lemmas.Int.{ints}
use Rattle.std.proofs.lemmas.List.{get_or_past}
use Rattle.std.proofs.lemmas.List.Elements.{All-cons, All-head, All-nil, All-tail, All-weaker}
use Rattle.std.proofs.lemmas.List.FromFn.{get_or-map-range_with_len, length-map-range_with_len}
use Rattle.std.proofs.lemmas.List.Sums.{sum_by-cons}
use Rattle.cube_model.specs.declared.edit.Fact.{Fact}
use Rattle.cube_model.specs.declared.statistic.CellStat.{CellStat}
use Rattle.cube_model.specs.Allocation.{Policy, allocation, spread, spread_by, spread_evenly, stat_of, weight_of}
use Rattle.cube_model.specs.Answer.{total_by}
use Rattle.cube_model.specs.Cells.{cells_of}
use Rattle.cube_model.specs.Limits.{DEN_LIMIT, MAX_CELLS, MAX_FACTS, MAX_VALUE}
use Rattle.cube_model.specs.Tree.{Dimension, IsTree}
use Rattle.region_algebra.specs.Space.{IsRegion}
use Rattle.region_algebra.proofs.Turns.{cells-some}
use Rattle.cell_weight.specs.Stats.{IsStat}
use Rattle.alloc_rows.specs.Alloc.{IsAllocation}
use Rattle.alloc_rows.proofs.Ascending.{IsAllocation-even, IsAllocation-weighed}
use Rattle.fact_groups.specs.Groups.{Group, column_sums, facts_with, group_at, groups_at, has_code, spread_at}
use Rattle.fact_groups.proofs.Groups.{first-holds, some-passes}
use Rattle.fact_groups.proofs.Sharing.{allocation-spread_at}
use Rattle.fact_records.specs.Shape.{IsShape, ShapeValue, policy_over, width_of_all}
use Rattle.fact_records.specs.Valid.{AreValid, IsValid}
use Rattle.fact_records.proofs.SmallValues.{count-accepted, small-accepted}
use Rattle.fact_indexes.proofs.Counting.{AreFewIn-facts}
use Rattle.fact_indexes.proofs.Modest.{IsModest}
use Rattle.fact_indexes.proofs.ValidFacts.{few-cells}
use Rattle.touched_cells.proofs.Touching.{IsStat-valid}

-- cells that weigh little are spread over by an allocation
IsAllocation-spread : (weight : ℕ → ℕ) (dims : List Dimension) (region : List ℕ) → 1 ≤ length (cells_of dims region) → length (cells_of dims region) ≤ MAX_CELLS → sum_by weight (cells_of dims region) < DEN_LIMIT
    → IsAllocation (spread weight (cells_of dims region))
IsAllocation-spread weight dims region some few light = by (length (cells_of dims region) == 1) (sum_by weight (cells_of dims region) == 0) refl
  where
    even : IsAllocation (spread_evenly (cells_of dims region))
    even = IsAllocation-even dims region _ _ refl refl some few

    by : (single none : Bool) → (sum_by weight (cells_of dims region) == 0) ≡ none
        → IsAllocation (if single then spread_evenly (cells_of dims region) else (if none then spread_evenly (cells_of dims region) else spread_by weight (cells_of dims region)))
    by true none is = even
    by false true is = even
    by false false is = IsAllocation-weighed weight dims region _ _ refl refl (grind (arith, nat_tests, is)) light

-- what a law of a policy lets cells weigh
weights-light : (weigh : CellStat → ℕ) (stats : ℕ → CellStat) → ((s : CellStat) → IsStat s → weigh s ≤ 1 + s.count * MAX_VALUE) → ((cell : ℕ) → IsStat (stats cell)) → (cells : List ℕ)
    → sum_by (λ cell. weigh (stats cell)) cells ≤ length cells + MAX_VALUE * sum_by (λ cell. (stats cell).count) cells
weights-light weigh stats bound are [] = omega arith
weights-light weigh stats bound are (cell ∷ cells) =
    omega (
      arith,
      bound (stats cell) (are cell),
      weights-light weigh stats bound are cells,
      sum_by-cons (λ c. weigh (stats c)) cell cells,
      sum_by-cons (λ c. (stats c).count) cell cells,
    )

-- small values add up to no more than one of them for each fact
abbrev pub AreSmall : Fact → Type 0
AreSmall f = All (λ value. nat_abs value ≤ MAX_VALUE) f.cols

small-at : (values : List ℤ) (k : ℕ) → All (λ value. nat_abs value ≤ MAX_VALUE) values → nat_abs (slice_index_or values k (pos 0)) ≤ MAX_VALUE
small-at values k each = elim (cases_lt k (length values)) [
  | inl within ↦ each k (pos 0) within
  | inr past ↦ omega (arith, ints, ap nat_abs (get_or_past values k (pos 0) past))
]

total-small : (p : Fact → Bool) (k : ℕ) (facts : List Fact) → All AreSmall facts → nat_abs (total_by (λ f. slice_index_or f.cols k (pos 0)) (filter p facts)) ≤ MAX_VALUE * length (filter p facts)
total-small p k [] each = omega arith
total-small p k (fact ∷ facts) each = by (p fact) (total-small p k facts (All-tail AreSmall fact facts each))
  where
    one : nat_abs (slice_index_or fact.cols k (pos 0)) ≤ MAX_VALUE
    one = small-at fact.cols k (All-head AreSmall fact facts each)

    added : (a b : ℤ) (n : ℕ) → nat_abs a ≤ MAX_VALUE → nat_abs b ≤ MAX_VALUE * n → nat_abs (a +ℤ b) ≤ MAX_VALUE * suc n
    added a b n first second = omega (arith, ints, first, second)

    by : (b : Bool) → nat_abs (total_by (λ f. slice_index_or f.cols k (pos 0)) (filter p facts)) ≤ MAX_VALUE * length (filter p facts)
        → nat_abs (total_by (λ f. slice_index_or f.cols k (pos 0)) (if b then fact ∷ filter p facts else filter p facts)) ≤ MAX_VALUE * length (if b then fact ∷ filter p facts else filter p facts)
    by true rest = added (slice_index_or fact.cols k (pos 0)) (total_by (λ f. slice_index_or f.cols k (pos 0)) (filter p facts)) (length (filter p facts)) one rest
    by false rest = rest

pub sums-small : (columns code : ℕ) (dims : List Dimension) (facts : List Fact) → All AreSmall facts → (k : ℕ)
    → nat_abs (slice_index_or (column_sums columns (facts_with dims code facts)) k (pos 0)) ≤ MAX_VALUE * length (facts_with dims code facts)
sums-small columns code dims facts each k = elim (cases_lt k columns) [
  | inl within ↦
      let read : slice_index_or (column_sums columns (facts_with dims code facts)) k (pos 0) ≡ total_by (λ f. slice_index_or f.cols k (pos 0)) (facts_with dims code facts) =
      get_or-map-range_with_len (λ j. total_by (λ f. slice_index_or f.cols j (pos 0)) (facts_with dims code facts)) 0 columns k k (pos 0) within (omega arith) in
      rw read (total-small (has_code dims code) k facts each)
  | inr past ↦
      let short : length (column_sums columns (facts_with dims code facts)) ≤ k = omega (arith, past, length-map-range_with_len (λ j. total_by (λ f. slice_index_or f.cols j (pos 0)) (facts_with dims code facts)) 0 columns) in
      omega (arith, ints, ap nat_abs (get_or_past (column_sums columns (facts_with dims code facts)) k (pos 0) short))
]

module _ (weigh : CellStat → ℕ) (bound : (s : CellStat) → IsStat s → weigh s ≤ 1 + s.count * MAX_VALUE) (shape : ShapeValue) (dims : List Dimension) (facts : List Fact)
    (is : IsShape shape) (trees : All IsTree dims) (valid : AreValid shape dims facts) where
  abbrev policy : Policy
  policy = policy_over weigh shape

  -- a region is spread over by an allocation
  pub spread-allocates : (region : List ℕ) → IsRegion dims region → length (cells_of dims region) ≤ MAX_CELLS → IsAllocation (spread_at policy dims facts region)
  unfolding spread_at
  spread-allocates region named few =
      let cells = cells_of dims region in
      let stats = stat_of policy dims facts in
      let light = weights-light weigh stats bound (IsStat-valid weigh shape dims facts is valid) cells in
      let counted : sum_by (λ cell. (stats cell).count) cells ≤ MAX_FACTS = AreFewIn-facts policy dims facts stats region (λ cell. refl) valid.few in
      IsAllocation-spread (weight_of policy dims facts) dims region (cells-some dims region trees named) few (omega (arith, light, counted, few))

  small-facts : All AreSmall facts
  small-facts = All-weaker (IsValid shape dims) AreSmall (λ f one. small-accepted shape f.cols one.accepted.values is.measures) facts valid.each

  -- no fact has more values than there are columns
  pub short-facts : All (λ f. length f.cols ≤ width_of_all shape.measures) facts
  short-facts = All-weaker (IsValid shape dims) (λ f. length f.cols ≤ width_of_all shape.measures) (λ f one. omega (arith, count-accepted shape f.cols one.accepted.values)) facts valid.each

  -- the group of a code, as the fact that is found says
  abbrev group_of : ℕ → Fact → Group
  group_of code f = record { spread = allocation policy dims facts f; count = length (facts_with dims code facts); sums = column_sums (width_of_all shape.measures) (facts_with dims code facts) }

  -- it is modest
  pub group-modest : (code : ℕ) (g : Group) → group_at policy (width_of_all shape.measures) dims facts code ≡ Some g → IsModest (width_of_all shape.measures) g
  group-modest code g there = by (find (has_code dims code) facts) refl there
    where
      modest : (f : Fact) → find (has_code dims code) facts ≡ Some f → IsModest (width_of_all shape.measures) (group_of code f)
      modest f found =
          let one = first-holds (IsValid shape dims) (has_code dims code) facts f valid.each found in
          record {
            some = grind (arith, nat_tests, some-passes (has_code dims code) facts f found);
            spread_is = subst IsAllocation (sym (allocation-spread_at policy dims facts f)) (spread-allocates f.region one.accepted.placed.region (few-cells dims f.region one.size));
            width = length-map-range_with_len (λ j. total_by (λ f. slice_index_or f.cols j (pos 0)) (facts_with dims code facts)) 0 (width_of_all shape.measures);
            small = sums-small (width_of_all shape.measures) code dims facts small-facts;
          }

      by : (found : Option Fact) → find (has_code dims code) facts ≡ found → group_at policy (width_of_all shape.measures) dims facts code ≡ Some g → IsModest (width_of_all shape.measures) g
      by None is there = let none : None ≡ Some g = rw is at there in cc
      by (Some f) is there =
          let some : Some (group_of code f) ≡ Some g = rw is at there in
          let same : group_of code f ≡ g = cc in
          subst (IsModest (width_of_all shape.measures)) same (modest f is)

  pub groups-modest : (codes : List ℕ) → All (IsModest (width_of_all shape.measures)) (groups_at policy (width_of_all shape.measures) dims facts codes)
  groups-modest [] = All-nil (IsModest (width_of_all shape.measures))
  groups-modest (code ∷ codes) = by (group_at policy (width_of_all shape.measures) dims facts code) refl (groups-modest codes)
    where
      by : (found : Option Group) → group_at policy (width_of_all shape.measures) dims facts code ≡ found → All (IsModest (width_of_all shape.measures)) (groups_at policy (width_of_all shape.measures) dims facts codes)
          → All (IsModest (width_of_all shape.measures)) (cons_option found (groups_at policy (width_of_all shape.measures) dims facts codes))
      by None is rest = rest
      by (Some g) is rest = All-cons (IsModest (width_of_all shape.measures)) g (groups_at policy (width_of_all shape.measures) dims facts codes) (group-modest code g is) rest
