-- What a schema is.
use Rattle.std.specs.Prelude.{◌≡◌, ◌≢◌, ℕ, ◌≤◌, List, length, map, position, All, AllPairs, Option, None, Some, true, ⊤}
use Rattle.std.specs.Str.{bytes_eq}
use Rattle.cube_base.specs.Name.{is_name}
use Rattle.cube_model.specs.declared.statistic.CellStat.{CellStat}
use Rattle.cube_model.specs.Allocation.{Policy, weigh_count, weigh_evenly, weigh_sum}
use Rattle.cube_model.specs.Limits.{MAX_DEPTH}
use Rattle.cube_model.specs.Tree.{Dimension, IsTree}
use Rattle.fact_records.specs.declared.shape.Kind.{Kind}
use Rattle.fact_records.specs.declared.shape.Kind.TheVariants.{Number, Parts}
use Rattle.fact_records.specs.declared.shape.Measure.{Measure}
use Rattle.fact_records.specs.Shape.{IsShape, ShapeValue, policy_over}
use Rattle.region_algebra.specs.declared.view_def.ViewDef.{ViewDef}
use Rattle.region_algebra.specs.Fault.{space_fault}
use Rattle.schema_text.specs.declared.word.PolicyWord.{PolicyWord}
use Rattle.schema_text.specs.declared.word.PolicyWord.TheVariants.{Uniform, Count, Weight}

-- a policy, measures, named dimensions, and views of them
pub record SchemaValue : Type 0 where
  pub policy : PolicyWord
  pub measures : List Measure
  pub names : List (List ℕ)
  pub dims : List Dimension
  pub views : List ViewDef

-- the place of the measure by whose sum cells weigh, if they do
abbrev pub weighing_measure : PolicyWord → Option ℕ
weighing_measure Uniform = None
weighing_measure Count = None
weighing_measure (Weight measure) = Some measure

-- the measures with that one
abbrev pub shape_of : SchemaValue → ShapeValue
shape_of schema = record { measures = schema.measures; weight = weighing_measure schema.policy }

-- how cells weigh
abbrev pub weigh_of : PolicyWord → CellStat → ℕ
weigh_of Uniform = weigh_evenly
weigh_of Count = weigh_count
weigh_of (Weight measure) = weigh_sum

-- a policy that weighs so, over the measures of a schema; and the schema's own
abbrev pub schema_policy : (CellStat → ℕ) → SchemaValue → Policy
schema_policy weigh schema = policy_over weigh (shape_of schema)

abbrev pub policy_of : SchemaValue → Policy
policy_of schema = schema_policy (weigh_of schema.policy) schema

-- the fewest outcomes of a distribution
abbrev pub MIN_OUTCOMES : ℕ
MIN_OUTCOMES = 2

-- distinct names
pub record AreNames (names : List (List ℕ)) : Type 0 where
  pub each : All (λ name. is_name name ≡ true) names
  pub distinct : AllPairs (λ a b. a ≢ b) names

-- two or more outcomes of distinct names; that they are at most seven, the columns say
pub record AreOutcomes (outcomes : List (List ℕ)) : Type 0 where
  pub some : MIN_OUTCOMES ≤ length outcomes
  pub names : AreNames outcomes

-- where a measure has outcomes, they are such as a schema gives
abbrev pub IsKind : Kind → Type 0
IsKind Number = ⊤
IsKind (Parts _ outcomes) = AreOutcomes outcomes

-- the most views
abbrev pub MAX_VIEWS : ℕ
MAX_VIEWS = 4

-- views of so many dimensions: distinct names, and in each view a depth for each dimension
pub record AreViews (count : ℕ) (views : List ViewDef) : Type 0 where
  pub few : length views ≤ MAX_VIEWS
  pub names : AreNames (map (λ v. v.name) views)
  pub depths : All (λ v. length v.depths ≡ count) views
  pub shallow : All (λ v. All (λ depth. depth ≤ MAX_DEPTH) v.depths) views

-- the place of the view of a name
abbrev pub view_named : List ViewDef → List ℕ → Option ℕ
view_named views name = position (λ v. bytes_eq v.name name) views

-- The measures have names and are of a kind that a schema may give, the names of the dimensions are distinct names, the dimensions are a space, and the views are views of it.
pub record IsSchema (schema : SchemaValue) : Type 0 where
  pub shape : IsShape (shape_of schema)
  pub kinds : All (λ m. IsKind m.kind) schema.measures
  pub measure_names : All (λ m. is_name m.name ≡ true) schema.measures
  pub dim_names : AreNames schema.names
  pub named : length schema.names ≡ length schema.dims
  pub trees : All IsTree schema.dims
  pub space : space_fault schema.dims ≡ None
  pub views : AreViews (length schema.dims) schema.views

-- the schema over other dimensions
abbrev pub over_dims : SchemaValue → List Dimension → SchemaValue
over_dims schema dims = record schema { dims = dims }
