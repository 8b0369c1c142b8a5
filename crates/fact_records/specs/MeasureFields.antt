-- What a field says of a measure: its name, where it is one of the kind that is asked for.
use Rattle.std.specs.Prelude.{◌≡◌, ℕ, Bool, true, false, List, Option, Some, None, ok_or, Result, if◌then◌else◌, slice_get}
use Rattle.std.specs.Option.{option_and_then, option_map_or}
use Rattle.cube_base.specs.declared.code.Code.{Code}
use Rattle.cube_base.specs.declared.code.Code.TheVariants as code
use Rattle.fact_records.specs.declared.measure_reader.MeasureKind.{MeasureKind}
use Rattle.fact_records.specs.declared.measure_reader.MeasureKind.TheVariants.{Number, Parts}
use Rattle.fact_records.specs.declared.shape.Kind.{Kind}
use Rattle.fact_records.specs.Fields.{is_number_measure, is_parts_measure}
use Rattle.fact_records.specs.Shape.{ShapeValue, measure_named}

-- values are of the kind
abbrev pub is_of_kind : MeasureKind → Kind → Bool
is_of_kind Number kind = is_number_measure kind
is_of_kind Parts kind = is_parts_measure kind

-- a place of a measure is that of one of the kind
abbrev pub is_measure_of : ShapeValue → MeasureKind → ℕ → Bool
is_measure_of shape wanted i = option_map_or (λ m. is_of_kind wanted m.kind) (slice_get shape.measures i) false

-- the place of the measure of a name, which is one of the kind
abbrev pub measure_of_kind : ShapeValue → MeasureKind → List ℕ → Option ℕ
measure_of_kind shape wanted name = option_and_then (λ i. if is_measure_of shape wanted i then Some i else None) (measure_named shape.measures name)

-- or its code
abbrev pub measure_given : ShapeValue → MeasureKind → List ℕ → Result ℕ Code
measure_given shape wanted name = ok_or (measure_of_kind shape wanted name) code.Measure

-- a measure at this place is one of the kind
abbrev pub IsMeasureOf : ShapeValue → MeasureKind → ℕ → Type 0
IsMeasureOf shape wanted i = is_measure_of shape wanted i ≡ true
