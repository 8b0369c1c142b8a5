-- What the growth of a dimension of a cube does, and why it is refused.
use Rattle.std.specs.Prelude.{◌≡◌, ◌≢◌, ℕ, Bool, List, [], ◌∷◌, filter, map, not, ⊤, if◌then◌else◌, Option, Some, None, is_none}
use Rattle.std.specs.Option.{option_and_then}
use Rattle.std.specs.List.{list_any}
use Rattle.cube_base.specs.declared.code.Code.{Code}
use Rattle.cube_base.specs.declared.code.Code.TheVariants as code
use Rattle.cube_model.specs.declared.edit.Fact.{Fact}
use Rattle.cube_model.specs.declared.statistic.CellStat.{CellStat}
use Rattle.cube_model.specs.Accepted.{first_refusal, has_many_rows}
use Rattle.cube_model.specs.Allocation.{Policy, allocation, extended, row_count}
use Rattle.cube_model.specs.Cells.{is_among}
use Rattle.cube_model.specs.Difference.{is_same}
use Rattle.cube_model.specs.Tree.{Dimension}
use Rattle.edit_plan.specs.Plan.{kept_rows}
use Rattle.fact_keeper.specs.declared.content.Batch.{Batch}
use Rattle.fact_records.specs.Accepted.{region_refusal}
use Rattle.region_algebra.specs.Growth.{grow_fault}
use Rattle.region_algebra.specs.declared.growth.GrowFault.{GrowFault}
use Rattle.region_algebra.specs.declared.growth.GrowFault.TheVariants as growth_fault
use Rattle.schema_text.specs.Growth.{dims_with}
use Rattle.schema_text.specs.Schema.{SchemaValue, over_dims, schema_policy}
use Rattle.schema_text.specs.SchemaText.{schema_text}
use Rattle.cube_model.specs.declared.tree.Grow.{Grow}
use Rattle.cube_core.specs.Cube.{CubeValue, cube_rows}
use Rattle.cube_core.specs.declared.fault.EditFault.{EditFault}
use Rattle.cube_core.specs.declared.fault.EditFault.TheVariants as edit_fault

-- the code of a refusal by a space; out of memory has none
abbrev pub growth_code : GrowFault → Option Code
growth_code growth_fault.Name = Some code.Name
growth_code growth_fault.Depth = Some code.Depth
growth_code growth_fault.Limit = Some code.Limit
growth_code growth_fault.Cells = Some code.Cells
growth_code growth_fault.Nodes = Some code.Nodes
growth_code growth_fault.Memory = None

-- why a space does not grow so
abbrev pub space_refusal : List Dimension → Grow → Option Code
space_refusal dims grow = option_and_then growth_code (grow_fault dims grow.dim grow.parent grow.name)

-- a fact has too many cells over dimensions
abbrev pub has_large_region : List Dimension → List Fact → Bool
has_large_region dims facts = list_any (λ f. not (is_none (region_refusal dims f.region))) facts

-- Why a growth over facts is refused, the first of these: the space does not grow so; a fact has too many cells then; the facts have too
-- many rows.
abbrev pub judge_growth : Policy → List Dimension → List Fact → Grow → Option Code
judge_growth policy dims facts grow =
    first_refusal (space_refusal dims grow
    ∷ (if has_large_region (dims_with grow dims) facts then Some code.Region else None)
    ∷ (if has_many_rows (extended policy (dims_with grow dims) facts) then Some code.Rows else None) ∷ [])

-- a fact lies over later dimensions as before
abbrev pub lies_the_same : Policy → List Dimension → List Dimension → List Fact → Fact → Bool
lies_the_same policy dims later facts fact = is_same (allocation policy dims facts fact) (allocation policy later facts fact)

-- the ids of the facts whose allocation changed over later dimensions, in order
abbrev pub moved : Policy → List Dimension → List Dimension → List Fact → List ℕ
moved policy dims later facts = map (λ f. f.id) (filter (λ f. not (lies_the_same policy dims later facts f)) facts)

-- What a growth changes of what is kept: the text of the schema, and the rows of the facts whose allocation changed.
abbrev pub growth_difference : Policy → SchemaValue → List Dimension → List Fact → Batch
growth_difference policy schema later facts = record {
  schema = Some (schema_text (over_dims schema later));
  gone = [];
  facts = [];
  rows = map kept_rows (filter (λ e. is_among (moved policy schema.dims later facts) e.id) (extended policy later facts));
}

-- the cube after a growth
abbrev pub grown_cube : {P : Type 0} → Grow → CubeValue P → CubeValue P
grown_cube grow cube = record cube { schema = over_dims cube.schema (dims_with grow cube.schema.dims) }

-- why a growth of a cube is refused, the ids that it refreshes, and what it changes of what is kept
abbrev pub judge_growth_in : {P : Type 0} → (P → CellStat → ℕ) → CubeValue P → Grow → Option Code
judge_growth_in weigh cube grow = judge_growth (schema_policy (weigh cube.policy) cube.schema) cube.schema.dims cube.facts grow

abbrev pub moved_in : {P : Type 0} → (P → CellStat → ℕ) → CubeValue P → Grow → List ℕ
moved_in weigh cube grow = moved (schema_policy (weigh cube.policy) cube.schema) cube.schema.dims (dims_with grow cube.schema.dims) cube.facts

abbrev pub growth_difference_in : {P : Type 0} → (P → CellStat → ℕ) → CubeValue P → Grow → Batch
growth_difference_in weigh cube grow = growth_difference (schema_policy (weigh cube.policy) cube.schema) cube.schema (dims_with grow cube.schema.dims) cube.facts

-- Why a growth of a cube fails. Where it is refused for the number of rows, that number is reported, else the code. Out
-- of memory is the free answer, of which nothing is said.
abbrev pub IsGrowthFaultOf : {P : Type 0} → (P → CellStat → ℕ) → CubeValue P → Grow → EditFault → Type 0
IsGrowthFaultOf weigh cube grow (edit_fault.Code refusal) = (judge_growth_in weigh cube grow ≡ Some refusal) × (refusal ≢ code.Rows)
IsGrowthFaultOf weigh cube grow (edit_fault.Rows would) = (judge_growth_in weigh cube grow ≡ Some code.Rows) × (would ≡ row_count (cube_rows weigh (grown_cube grow cube)))
IsGrowthFaultOf weigh cube grow edit_fault.KeepFault = judge_growth_in weigh cube grow ≡ None
IsGrowthFaultOf weigh cube grow edit_fault.Memory = ⊤

-- what refuses a growth where the space grows
abbrev pub fault_of_growth : GrowFault → EditFault
fault_of_growth growth_fault.Name = edit_fault.Code code.Name
fault_of_growth growth_fault.Depth = edit_fault.Code code.Depth
fault_of_growth growth_fault.Limit = edit_fault.Code code.Limit
fault_of_growth growth_fault.Cells = edit_fault.Code code.Cells
fault_of_growth growth_fault.Nodes = edit_fault.Code code.Nodes
fault_of_growth growth_fault.Memory = edit_fault.Memory
