-- How a field spells the values of a measure.
use Rattle.std.specs.Prelude.{ℕ, Bool, List, [], ◌∷◌, length, map, fold, ◌==◌, ◌&&◌, if◌then◌else◌, Option, Some, None, ℤ, pos, ◌+ℤ◌, neg_ℤ, int_lt}
use Rattle.std.specs.Option.{option_map, option_and_then}
use Rattle.std.specs.List.{list_any, slice_split}
use Rattle.std.specs.Ordering.{int_eq}
use Rattle.cube_base.specs.declared.code.Code.{Code}
use Rattle.cube_base.specs.declared.code.Code.TheVariants as code
use Rattle.cube_model.specs.Limits.{MAX_VALUE}
use Rattle.text_lines.specs.Text.{number_in}
use Rattle.fact_records.specs.declared.shape.Kind.{Kind}
use Rattle.fact_records.specs.declared.shape.Kind.TheVariants.{Number, Parts}
use Rattle.fact_records.specs.declared.shape.Measure.{Measure}
use Rattle.fact_records.specs.Shape.{ShapeValue, is_weight}

-- a signed number from -most to most: a number, or `-` before a number other than 0
abbrev pub signed_number_in : ℕ → List ℕ → Option ℤ
signed_number_in most [] = None
signed_number_in most (b ∷ bytes) =
    if b == 45 then option_map (λ n. neg_ℤ (pos n)) (number_in 1 most bytes) else option_map (λ n. pos n) (number_in 0 most (b ∷ bytes))

-- the items, where each of them is there
abbrev pub all_of : {X : Type 0} → List (Option X) → Option (List X)
all_of [] = Some []
all_of (item ∷ items) = option_and_then (λ x. option_map (λ xs. x ∷ xs) (all_of items)) item

-- the values add up to the scale
abbrev pub sums_to : ℕ → List ℤ → Bool
sums_to scale values = int_eq (fold ◌+ℤ◌ (pos 0) values) (pos scale)

-- a number from 0 to the scale
abbrev pub part_in : ℕ → List ℕ → Option ℤ
part_in scale bytes = option_map (λ n. pos n) (number_in 0 scale bytes)

-- so many numbers from 0 to the scale, joined by `:`, that add up to the scale
abbrev pub parts_in : ℕ → ℕ → List ℕ → Option (List ℤ)
parts_in count scale bytes =
    option_and_then (λ parts. if length parts == count && sums_to scale parts then Some parts else None) (all_of (map (part_in scale) (slice_split (λ b. b == 58) bytes)))

-- the values that a field gives a measure
abbrev pub values_in : Kind → List ℕ → Option (List ℤ)
values_in Number field = option_map (λ value. value ∷ []) (signed_number_in MAX_VALUE field)
values_in (Parts scale outcomes) field = parts_in (length outcomes) scale field

-- some value is below 0
abbrev pub has_negative : List ℤ → Bool
has_negative values = list_any (λ value. int_lt value (pos 0)) values

-- the values that a field gives a measure of a shape: none below 0 where cells weigh by the measure's sum
abbrev pub values_for : ShapeValue → Measure → List ℕ → Option (List ℤ)
values_for shape measure field =
    option_and_then (λ values. if is_weight shape measure && has_negative values then None else Some values) (values_in measure.kind field)

-- the code of a field that gives none
abbrev pub field_code : Kind → Code
field_code Number = code.Value
field_code (Parts _ _) = code.Parts
