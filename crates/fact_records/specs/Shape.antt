-- The measures of a cube, and which columns hold their values. Column 0 is the count.
use Rattle.std.specs.Prelude.{◌≡◌, ◌≢◌, ℕ, ◌+◌, ◌-◌, ◌≤◌, List, [], ◌∷◌, length, take, drop, All, AllPairs, position, Option, Some, None, slice_get, ⊤, ◌==◌, false, Bool, ℤ}
use Rattle.std.specs.Option.{option_and_then, option_map, option_map_or}
use Rattle.cube_model.specs.declared.statistic.CellStat.{CellStat}
use Rattle.cube_model.specs.Allocation.{Policy, add_column}
use Rattle.std.specs.Str.{bytes_eq}
use Rattle.cube_model.specs.Limits.{MAX_COLS, MAX_SCALE, MIN_SCALE}
use Rattle.fact_records.specs.declared.shape.Kind.{Kind}
use Rattle.fact_records.specs.declared.shape.Kind.TheVariants.{Number, Parts}
use Rattle.fact_records.specs.declared.shape.Measure.{Measure}

-- how many columns a measure has
abbrev pub width_of : Kind → ℕ
width_of Number = 1
width_of (Parts _ outcomes) = length outcomes

-- and measures have together
abbrev pub width_of_all : List Measure → ℕ
width_of_all [] = 0
width_of_all (measure ∷ measures) = width_of measure.kind + width_of_all measures

-- a number that the parts of a distribution may add up to
pub record IsScale (scale : ℕ) : Type 0 where
  pub least : MIN_SCALE ≤ scale
  pub most : scale ≤ MAX_SCALE

-- where the values of a measure are distributions, their scale is such a number
abbrev pub HasScale : Kind → Type 0
HasScale Number = ⊤
HasScale (Parts scale _) = IsScale scale

-- the columns of the measures follow one another from this one on
abbrev pub AreInOrder : ℕ → List Measure → Type 0
AreInOrder first [] = Unit {0}
AreInOrder first (measure ∷ measures) = (measure.first_col ≡ first) × AreInOrder (first + width_of measure.kind) measures

-- measures of a cube: no two have one name, each has a column, they have at most seven, these follow the count, and no scale is out of its limits
pub record AreMeasures (measures : List Measure) : Type 0 where
  pub distinct : AllPairs (λ a b. a.name ≢ b.name) measures
  pub some : All (λ m. 1 ≤ width_of m.kind) measures
  pub most : width_of_all measures ≤ MAX_COLS
  pub order : AreInOrder 1 measures
  pub scales : All (λ m. HasScale m.kind) measures

-- measures, and the place of the one by whose sum cells weigh, if there is one
pub record ShapeValue : Type 0 where
  pub measures : List Measure
  pub weight : Option ℕ

-- cells may weigh by the sum of a number measure alone
abbrev pub IsWeighable : List Measure → Option ℕ → Type 0
IsWeighable measures None = ⊤
IsWeighable measures (Some i) = option_map (λ m. m.kind) (slice_get measures i) ≡ Some Number

pub record IsShape (shape : ShapeValue) : Type 0 where
  pub measures : AreMeasures shape.measures
  pub weight : IsWeighable shape.measures shape.weight

-- the measure by whose sum cells weigh, if there is one
abbrev pub weight_measure : ShapeValue → Option Measure
weight_measure shape = option_and_then (λ i. slice_get shape.measures i) shape.weight

-- a measure is that one: its column is
abbrev pub is_weight : ShapeValue → Measure → Bool
is_weight shape measure = option_map_or (λ m. m.first_col == measure.first_col) (weight_measure shape) false

-- what a fact of these values adds to the sum of its cell
abbrev pub adds_of : ShapeValue → List ℤ → ℕ
adds_of shape values = option_map_or (λ m. add_column m.first_col values) (weight_measure shape) 0

-- a policy that weighs so, over these measures
abbrev pub policy_over : (CellStat → ℕ) → ShapeValue → Policy
policy_over weigh shape = record { weigh = weigh; adds = adds_of shape }

-- the place of the measure of a name
abbrev pub measure_named : List Measure → List ℕ → Option ℕ
measure_named measures name = position (λ m. bytes_eq m.name name) measures

-- The values of a measure among the values of a fact, which begin with column 1.
abbrev pub values_of : Measure → List ℤ → List ℤ
values_of measure values = take (width_of measure.kind) (drop (measure.first_col - 1) values)

-- the columns of a measure are among those of so many values
pub record IsWithin (len : ℕ) (measure : Measure) : Type 0 where
  pub first : 1 ≤ measure.first_col
  pub last : measure.first_col + width_of measure.kind ≤ len + 1
