-- The columns of a measure are among those of all.
use Rattle.std.proofs.Common.{◌≡◌, ℕ, ◌+◌, ◌<◌, ◌≤◌, List, refl, arith, subst, Option, Some, None}
use Rattle.std.specs.Prelude.{IfSome, slice_get}
use Rattle.std.proofs.lemmas.Option.{get_or_from_slice_get, slice_get_within}
use Rattle.fact_records.specs.declared.shape.Measure.{Measure}
use Rattle.fact_records.specs.Shape.{AreMeasures, IsWithin, width_of, width_of_all}
use Rattle.fact_records.proofs.Columns.{AreMeasures-within}

within-columns : (measures : List Measure) (i : ℕ) (m : Measure) → AreMeasures measures → slice_get measures i ≡ Some m → IsWithin (width_of_all measures) m
within-columns measures i m are at =
    subst (IsWithin (width_of_all measures)) (get_or_from_slice_get measures i m m at) (AreMeasures-within (width_of_all measures) measures are refl i m (slice_get_within measures i m at))

pub first_col-within : (measures : List Measure) (i : ℕ) (m : Measure) → AreMeasures measures → slice_get measures i ≡ Some m → m.first_col < width_of_all measures + 1
first_col-within measures i m are at =
    let width : 1 ≤ width_of m.kind = subst (λ n. 1 ≤ width_of n.kind) (get_or_from_slice_get measures i m m at) (are.some i m (slice_get_within measures i m at)) in
    let inside = within-columns measures i m are at in
    omega arith

-- and the column behind them is not above their number
pub columns-within : (measures : List Measure) (i columns : ℕ) → AreMeasures measures → columns ≡ width_of_all measures + 1 → IfSome (slice_get measures i) (λ m. m.first_col + width_of m.kind ≤ columns)
columns-within measures i columns are all = by_place (slice_get measures i) refl
  where
    by_place : (found : Option Measure) → slice_get measures i ≡ found → IfSome found (λ m. m.first_col + width_of m.kind ≤ columns)
    by_place None at = tt
    by_place (Some m) at =
        let inside = within-columns measures i m are at in
        omega arith
