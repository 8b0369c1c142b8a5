-- What facts of small values, spread over few cells, add up to stays within bounds.
use Rattle.std.proofs.Common.{◌≡◌, ℕ, suc, ◌+◌, ◌*◌, ◌<◌, ◌≤◌, Bool, true, false, List, [], ◌∷◌, get_or, length, map, refl, ap, sym, subst, arith, inl, inr, ℤ, pos, ◌+ℤ◌, ◌*ℤ◌, None}
use Rattle.std.specs.Prelude.{All, if◌then◌else◌, nat_abs, slice_index_or, ◌==◌}
use Rattle.std.specs.List.{range_with_len, sum_by}
use Rattle.std.proofs.lemmas.Bool.{cases_lt}
use Rattle.std.proofs.lemmas.Bool.Decides.{nat_tests}
use Rattle.std.proofs.lemmas.Int.{ints, unsigned_abs-mul}
use Rattle.std.proofs.lemmas.List.{get_or_past, length-map}
use Rattle.std.proofs.lemmas.List.Elements.{All-from_get_or, All-head, All-map, All-tail}
use Rattle.std.proofs.lemmas.List.FromFn.{get_or-map-range_with_len, length-map-range_with_len}
use Rattle.std.proofs.lemmas.List.Sums.{sum_by-cons}
use Rattle.std.proofs.Math.Nat.{mul-le-mul_left, mul-le-mul_right}
use Rattle.cube_model.specs.declared.edit.Fact.{Fact}
use Rattle.cube_model.specs.declared.statistic.CellStat.{CellStat}
use Rattle.cube_model.specs.Allocation.{ExtendedFact, allocation, extended}
use Rattle.cube_model.specs.Answer.{answer, bound_of, count_at, over, sum_at, total_by, weight_inside}
use Rattle.cube_model.specs.Cells.{cells_of}
use Rattle.cube_model.specs.Limits.{DEN_LIMIT, MAX_FACTS, MAX_VALUE}
use Rattle.cube_model.specs.Tree.{Dimension, IsTree}
use Rattle.cell_weight.specs.Stats.{IsStat}
use Rattle.alloc_rows.specs.Alloc.{IsAllocation}
use Rattle.exact_fraction.specs.Moderate.{IsModerate, IsModerateTerm}
use Rattle.fact_groups.proofs.Sharing.{allocation-spread_at}
use Rattle.fact_records.specs.Accepted.{cols_refusal}
use Rattle.fact_records.specs.Shape.{IsShape, ShapeValue, policy_over, width_of_all}
use Rattle.fact_records.specs.Valid.{AreValid}
use Rattle.fact_records.proofs.SmallValues.{count-accepted, small-accepted}
use Rattle.fact_indexes.proofs.Modest.{inside-le}
use Rattle.fact_indexes.proofs.SmallGroups.{spread-allocates}
use Rattle.cube_core.specs.Cube.{IsBounded}
use Rattle.cube_core.proofs.Rows.{extended-among, few_cells}
use Rattle.cube_core.proofs.TermsBelow.{length-answer, terms_below-each}

-- values that a fact may have
pub record AreSmallValues (columns : ℕ) (values : List ℤ) : Type 0 where
  pub count : length values ≡ columns
  pub small : All (λ value. nat_abs value ≤ MAX_VALUE) values

pub small_values : (shape : ShapeValue) (values : List ℤ) → IsShape shape → cols_refusal shape values ≡ None → AreSmallValues (width_of_all shape.measures) values
small_values shape values is accepted = record { count = count-accepted shape values accepted; small = small-accepted shape values accepted is.measures }

-- a fact with small values whose rows are an allocation
pub record IsSmall (e : ExtendedFact) : Type 0 where
  pub spread : IsAllocation e.allocation
  pub values : All (λ value. nat_abs value ≤ MAX_VALUE) e.values

-- also where there is no value
small-at : (values : List ℤ) (k : ℕ) → All (λ value. nat_abs value ≤ MAX_VALUE) values → nat_abs (slice_index_or values k (pos 0)) ≤ MAX_VALUE
small-at values k each = elim (cases_lt k (length values)) [
  | inl within ↦ each k (pos 0) within
  | inr past ↦ omega (arith, ints, ap nat_abs (get_or_past values k (pos 0) past))
]

module _ (cells : List ℕ) (den : ℕ) where
  abbrev weight : ExtendedFact → ℕ
  weight e = weight_inside cells e.allocation

  abbrev product : ℕ → ExtendedFact → ℤ
  product k e = pos (weight e) *ℤ slice_index_or e.values k (pos 0)

  -- no count passes the number of the facts times its denominator
  count-le : (rows : List ExtendedFact) → All IsSmall rows → count_at cells rows den ≤ length rows * den
  count-le [] each = omega arith
  count-le (e ∷ rows) each = by (e.allocation.den == den) refl (count-le rows (All-tail IsSmall e rows each))
    where
      is : IsSmall e
      is = All-head IsSmall e rows each

      by : (b : Bool) → (e.allocation.den == den) ≡ b → count_at cells rows den ≤ length rows * den → sum_by weight (if b then e ∷ over den rows else over den rows) ≤ suc (length rows) * den
      by true same rest =
          let its : e.allocation.den ≡ den = grind (arith, nat_tests, same) in
          omega (arith, its, sum_by-cons weight e (over den rows), inside-le cells e.allocation is.spread, rest)
      by false other rest = omega (arith, rest)

  -- no sum passes MAX_VALUE times its count
  sum-le : (k : ℕ) (rows : List ExtendedFact) → All IsSmall rows → nat_abs (sum_at cells rows k den) ≤ MAX_VALUE * count_at cells rows den
  sum-le k [] each = omega arith
  sum-le k (e ∷ rows) each = by (e.allocation.den == den) (sum-le k rows (All-tail IsSmall e rows each))
    where
      one : nat_abs (product k e) ≤ MAX_VALUE * weight e
      one =
          let most : weight e * nat_abs (slice_index_or e.values k (pos 0)) ≤ weight e * MAX_VALUE = mul-le-mul_left (weight e) (small-at e.values k (All-head IsSmall e rows each).values) in
          omega (arith, unsigned_abs-mul (pos (weight e)) (slice_index_or e.values k (pos 0)), most)

      added : (a b : ℤ) (m n all : ℕ) → nat_abs a ≤ MAX_VALUE * m → nat_abs b ≤ MAX_VALUE * n → all ≡ m + n → nat_abs (a +ℤ b) ≤ MAX_VALUE * all
      added a b m n all first second sum = omega (arith, ints, first, second, sum)

      by : (b : Bool) → nat_abs (sum_at cells rows k den) ≤ MAX_VALUE * count_at cells rows den
          → nat_abs (total_by (product k) (if b then e ∷ over den rows else over den rows)) ≤ MAX_VALUE * sum_by weight (if b then e ∷ over den rows else over den rows)
      by true rest = added (product k e) (sum_at cells rows k den) (weight e) (count_at cells rows den) (sum_by weight (e ∷ over den rows)) one rest (sum_by-cons weight e (over den rows))
      by false rest = rest

  -- and nothing has a denominator from DEN_LIMIT on
  den-below : (rows : List ExtendedFact) → All IsSmall rows → (count_at cells rows den == 0) ≡ false → den < DEN_LIMIT
  den-below [] each some = absurd (grind (arith, nat_tests, some))
  den-below (e ∷ rows) each some = by (e.allocation.den == den) refl (den-below rows (All-tail IsSmall e rows each)) some
    where
      by : (b : Bool) → (e.allocation.den == den) ≡ b → ((count_at cells rows den == 0) ≡ false → den < DEN_LIMIT)
          → (sum_by weight (if b then e ∷ over den rows else over den rows) == 0) ≡ false → den < DEN_LIMIT
      by true same rest some =
          let its : e.allocation.den ≡ den = grind (arith, nat_tests, same) in
          omega (arith, its, (All-head IsSmall e rows each).spread.limit)
      by false other rest some = rest some

-- answers over few such facts
module _ (columns : ℕ) (dims : List Dimension) (rows : List ExtendedFact) (small : All IsSmall rows) (few : length rows ≤ MAX_FACTS) (region : List ℕ) where
  abbrev cells : List ℕ
  cells = cells_of dims region

  abbrev sums_of : ℕ → List ℤ
  sums_of den = map (λ column. sum_at cells rows column den) (range_with_len 0 columns)

  -- have moderate terms
  term_is : (den : ℕ) → IsModerateTerm (record { den = den; count = count_at cells rows den; sums = sums_of den })
  term_is den = record {
    count = omega (arith, count-le cells den rows small, mul-le-mul_right den few);
    sums =
        All-from_get_or (λ sum. nat_abs sum ≤ MAX_VALUE * count_at cells rows den) (sums_of den) (pos 0)
        (λ k within.
        let inside : k < columns = omega (arith, within, length-map-range_with_len (λ column. sum_at cells rows column den) 0 columns) in
        rw (get_or-map-range_with_len (λ column. sum_at cells rows column den) 0 columns k k (pos 0) inside (omega arith)) (sum-le cells den k rows small));
  }

  pub answer-moderate : IsModerate (answer columns dims rows region)
  unfolding answer
  answer-moderate = record {
    few = omega (arith, few, length-answer columns dims rows region);
    each = terms_below-each IsModerateTerm (count_at cells rows) sums_of (λ den some. term_is den) (bound_of rows);
  }

  -- and bounded ones
  pub answer-bounded : All IsBounded (answer columns dims rows region)
  unfolding answer
  answer-bounded =
      terms_below-each IsBounded (count_at cells rows) sums_of
      (λ den some.
      let below = den-below cells den rows small some in
      let is = term_is den in
      record {
        den = below;
        count = omega (arith, is.count, below);
        sums = λ k d within. omega (arith, is.sums k d within, is.count, below);
      })
      (bound_of rows)

-- the facts that a cube may have are few and such
module _ (weigh : CellStat → ℕ) (bound : (s : CellStat) → IsStat s → weigh s ≤ 1 + s.count * MAX_VALUE) (shape : ShapeValue) (dims : List Dimension) (facts : List Fact)
    (is : IsShape shape) (trees : All IsTree dims) (valid : AreValid shape dims facts) where
  abbrev row : Fact → ExtendedFact
  row f = record { id = f.id; values = f.cols; allocation = allocation (policy_over weigh shape) dims facts f }

  pub small-rows : All IsSmall (extended (policy_over weigh shape) dims facts)
  small-rows =
      rw (extended-among (policy_over weigh shape) dims facts) (All-map IsSmall row facts
      (λ k d lt.
      let f = get_or facts k d in
      let one = valid.each k d lt in
      record {
        spread =
            subst IsAllocation (sym (allocation-spread_at (policy_over weigh shape) dims facts f))
            (spread-allocates weigh bound shape dims facts is trees valid f.region one.accepted.placed.region (few_cells dims f.region one.size));
        values = (small_values shape f.cols is one.accepted.values).small;
      }))

  pub few-rows : length (extended (policy_over weigh shape) dims facts) ≤ MAX_FACTS
  few-rows = rw (extended-among (policy_over weigh shape) dims facts) (omega (arith, valid.few, length-map facts row))
