-- Which values and which regions a fact may have.
use Rattle.std.specs.Prelude.{ℕ, Bool, false, List, [], ◌∷◌, length, nat_lt, not, ◌&&◌, ◌||◌, ◌==◌, Option, ℤ, unsigned_abs}
use Rattle.std.specs.List.{list_any}
use Rattle.cube_base.specs.declared.code.Code.{Code}
use Rattle.cube_base.specs.declared.code.Code.TheVariants as code
use Rattle.cube_model.specs.Accepted.{first_that_holds}
use Rattle.cube_model.specs.Cells.{cells_of}
use Rattle.cube_model.specs.Limits.{MAX_CELLS, MAX_VALUE}
use Rattle.cube_model.specs.Tree.{Dimension}
use Rattle.fact_records.specs.declared.shape.Kind.{Kind}
use Rattle.fact_records.specs.declared.shape.Kind.TheVariants.{Number, Parts}
use Rattle.fact_records.specs.declared.shape.Measure.{Measure}
use Rattle.fact_records.specs.Shape.{ShapeValue, is_weight, values_of, width_of_all}
use Rattle.fact_records.specs.Values.{has_negative, sums_to}

-- a value of a number measure is above 10^12 in absolute value
abbrev pub is_large : Kind → List ℤ → Bool
is_large Number values = list_any (λ value. nat_lt MAX_VALUE (unsigned_abs value)) values
is_large (Parts _ _) values = false

-- a value of a parts measure is below 0, or its values do not add up to the scale
abbrev pub is_no_distribution : Kind → List ℤ → Bool
is_no_distribution Number values = false
is_no_distribution (Parts scale _) values = has_negative values || not (sums_to scale values)

-- a value of a measure is above 10^12 in absolute value where it is a number, or below 0 where cells weigh by its sum
abbrev pub is_wrong_number : ShapeValue → Measure → List ℤ → Bool
is_wrong_number shape measure values = is_large measure.kind values || (is_weight shape measure && has_negative values)

-- a measure has such a value
abbrev pub has_wrong_number : ShapeValue → List ℤ → Bool
has_wrong_number shape values = list_any (λ m. is_wrong_number shape m (values_of m values)) shape.measures

-- a parts measure has such values
abbrev pub has_wrong_parts : List Measure → List ℤ → Bool
has_wrong_parts measures values = list_any (λ m. is_no_distribution m.kind (values_of m values)) measures

-- why the values of a fact are refused: the first of these conditions that holds
abbrev pub cols_refusal : ShapeValue → List ℤ → Option Code
cols_refusal shape values =
    first_that_holds
    ((not (length values == width_of_all shape.measures) || has_wrong_number shape values, code.Value)
    ∷ (has_wrong_parts shape.measures values, code.Parts) ∷ [])

-- why the region of a fact is refused
abbrev pub region_refusal : List Dimension → List ℕ → Option Code
region_refusal dims region = first_that_holds ((nat_lt MAX_CELLS (length (cells_of dims region)), code.Region) ∷ [])
