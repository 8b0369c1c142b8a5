-- What a fact of accepted values adds to the sum of its cell.
use Rattle.std.proofs.Common.{◌≡◌, ℕ, ◌-◌, ◌<◌, ◌≤◌, List, ◌∷◌, length, get_or, slice_get, sym, ap, subst, ◌∙◌, suc, arith, ℤ, pos, Some, None}
use Rattle.std.specs.Prelude.{nat_abs}
use Rattle.std.proofs.lemmas.Option.{get_or_from_slice_get, slice_get_within}
use Rattle.std.specs.Option.{option_and_then, option_map, option_map_or}
use Rattle.cube_model.specs.Allocation.{add_column}
use Rattle.cube_model.specs.Limits.{MAX_VALUE}
use Rattle.fact_records.specs.declared.shape.Kind.TheVariants.{Number}
use Rattle.fact_records.specs.declared.shape.Measure.{Measure}
use Rattle.fact_records.specs.Accepted.{cols_refusal}
use Rattle.fact_records.specs.Shape.{IsShape, IsWeighable, IsWithin, ShapeValue, adds_of, weight_measure, width_of}
use Rattle.fact_records.proofs.Columns.{AreMeasures-within}
use Rattle.fact_records.proofs.SmallValues.{count-accepted, small-accepted}

-- where a measure weighs
module _ (shape : ShapeValue) (values : List ℤ) (is_shape : IsShape shape) (accepted : cols_refusal shape values ≡ None) (i : ℕ) (m : Measure) (weighs : Some i ≡ shape.weight) (there : slice_get shape.measures i ≡ Some m) where
  within : IsWithin (length values) m
  within =
      let at = get_or_from_slice_get shape.measures i m m there in
      subst (IsWithin (length values)) at (AreMeasures-within (length values) shape.measures is_shape.measures (count-accepted shape values accepted) i m (slice_get_within shape.measures i m there))

  kind : m.kind ≡ Number
  kind =
      let weighable : IsWeighable shape.measures (Some i) = subst (IsWeighable shape.measures) (sym weighs) is_shape.weight in
      let found : option_map (λ m. m.kind) (slice_get shape.measures i) ≡ Some m.kind = ap (option_map (λ m. m.kind)) there in
      cc

  -- its column is among the values
  pub weight-within : m.first_col - 1 < length values
  weight-within =
      let wide : width_of m.kind ≡ 1 = ap width_of kind in
      omega (arith, within.first, within.last)

  -- its value is what the fact adds
  pub weight-adds : nat_abs (get_or values (m.first_col - 1) (pos 0)) ≡ adds_of shape values
  weight-adds =
      let column : m.first_col ≡ suc (m.first_col - 1) = omega (arith, within.first) in
      let behind : get_or (pos 1 ∷ values) m.first_col (pos 0) ≡ get_or values (m.first_col - 1) (pos 0) = ap (λ n. get_or (pos 1 ∷ values) n (pos 0)) column in
      let measure : weight_measure shape ≡ Some m = ap (option_and_then (λ k. slice_get shape.measures k)) (sym weighs) ∙ there in
      let added : adds_of shape values ≡ nat_abs (get_or (pos 1 ∷ values) m.first_col (pos 0)) = ap (λ o. option_map_or (λ (w : Measure). add_column w.first_col values) o 0) measure in
      sym (added ∙ ap nat_abs behind)

  -- and is not large
  pub weight-small : nat_abs (get_or values (m.first_col - 1) (pos 0)) ≤ MAX_VALUE
  weight-small = small-accepted shape values accepted is_shape.measures (m.first_col - 1) (pos 0) weight-within
