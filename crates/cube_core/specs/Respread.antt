-- The facts of a state over other dimensions: when they may be, and the allocation of which changed there.
use Rattle.std.specs.Prelude.{◌≡◌, ◌≢◌, ℕ, List, [], ◌∷◌, filter, length, map, not, ⊤, Option, Some, None, if◌then◌else◌}
use Rattle.cube_base.specs.declared.code.Code.{Code}
use Rattle.cube_base.specs.declared.code.Code.TheVariants as code
use Rattle.cube_model.specs.declared.edit.Fact.{Fact}
use Rattle.cube_model.specs.declared.statistic.CellStat.{CellStat}
use Rattle.cube_model.specs.Accepted.{first_refusal, has_many_rows}
use Rattle.cube_model.specs.Allocation.{Policy, extended, row_count}
use Rattle.cube_model.specs.Cells.{is_among}
use Rattle.cube_model.specs.Tree.{Dimension}
use Rattle.edit_plan.specs.Plan.{kept_rows}
use Rattle.cube_state.specs.State.{StateValue, policy_in}
use Rattle.edit_plan.specs.Whole.{rows_among}
use Rattle.edit_plan.specs.declared.fault.PlanAllFault.{PlanAllFault}
use Rattle.edit_plan.specs.declared.fault.PlanAllFault.TheVariants as plan_all_fault
use Rattle.fact_keeper.specs.declared.content.Batch.{Batch}
use Rattle.fact_keeper.specs.declared.content.KeptRows.{KeptRows}
use Rattle.region_algebra.specs.Space.{IsRegion}
use Rattle.schema_text.specs.Schema.{SchemaValue}
use Rattle.schema_text.specs.SchemaText.{schema_text}
use Rattle.cube_model.specs.declared.tree.Grow.{Grow}
use Rattle.cube_core.specs.Growth.{has_large_region, lies_the_same, moved, space_refusal}
use Rattle.cube_core.specs.declared.fault.EditFault.{EditFault}
use Rattle.cube_core.specs.declared.fault.EditFault.TheVariants as edit_fault

-- there are as many dimensions, and each region is one still
pub record KeepRegions (dims later : List Dimension) : Type 0 where
  pub same : length later ≡ length dims
  pub regions : (region : List ℕ) → IsRegion dims region → IsRegion later region

-- the second state is the first over these dimensions
pub record IsStateOver {P : Type 0} (later : List Dimension) (old new : StateValue P) : Type 0 where
  pub policy : new.policy ≡ old.policy
  pub dims : new.dims ≡ later
  pub shape : new.shape ≡ old.shape
  pub cuts : new.cuts ≡ old.cuts
  pub facts : new.facts ≡ old.facts

-- why facts may not be over dimensions of which they have regions
abbrev pub facts_refusal : Policy → List Dimension → List Fact → Option Code
facts_refusal policy later facts =
    first_refusal ((if has_large_region later facts then Some code.Region else None)
    ∷ (if has_many_rows (extended policy later facts) then Some code.Rows else None) ∷ [])

-- and why those of a state are not: out of memory is the free answer
abbrev pub IsRespreadFault : {P : Type 0} → (P → CellStat → ℕ) → StateValue P → List Dimension → EditFault → Type 0
IsRespreadFault weigh state later (edit_fault.Code refusal) = (facts_refusal (policy_in weigh state) later state.facts ≡ Some refusal) × (refusal ≢ code.Rows)
IsRespreadFault weigh state later (edit_fault.Rows would) = (facts_refusal (policy_in weigh state) later state.facts ≡ Some code.Rows) × (would ≡ row_count (extended (policy_in weigh state) later state.facts))
IsRespreadFault weigh state later edit_fault.KeepFault = ⊥
IsRespreadFault weigh state later edit_fault.Memory = ⊤

-- of some of the facts, those whose allocation changed over later dimensions: their ids, and their rows there
abbrev pub ids_moved : Policy → List Dimension → List Dimension → List Fact → List Fact → List ℕ
ids_moved policy dims later facts some = map (λ f. f.id) (filter (λ f. not (lies_the_same policy dims later facts f)) some)

abbrev pub rows_moved : Policy → List Dimension → List Dimension → List Fact → List Fact → List KeptRows
rows_moved policy dims later facts some = map (rows_among policy later facts) (filter (λ f. not (lies_the_same policy dims later facts f)) some)

-- the rows of all whose allocation changed
abbrev pub all_moved : Policy → List Dimension → List Dimension → List Fact → List KeptRows
all_moved policy dims later facts = map kept_rows (filter (λ e. is_among (moved policy dims later facts) e.id) (extended policy later facts))

-- Why a space gets no leaf: its refusal is reported, or it is out of memory.
abbrev pub IsSpaceFault : List Dimension → Grow → EditFault → Type 0
IsSpaceFault dims grow (edit_fault.Code refusal) = (space_refusal dims grow ≡ Some refusal) × (refusal ≢ code.Rows)
IsSpaceFault dims grow (edit_fault.Rows would) = ⊥
IsSpaceFault dims grow edit_fault.KeepFault = ⊥
IsSpaceFault dims grow edit_fault.Memory = ⊤

-- the text of a schema, and the rows of the facts whose allocation changed over its dimensions
abbrev pub batch_to : Policy → List Dimension → SchemaValue → List Fact → Batch
batch_to policy dims later facts = record { schema = Some (schema_text later); gone = []; facts = []; rows = all_moved policy dims later.dims facts }

-- what refuses them where all are planned
abbrev pub fault_of_plan_all : PlanAllFault → EditFault
fault_of_plan_all (plan_all_fault.Rows would) = edit_fault.Rows would
fault_of_plan_all plan_all_fault.Memory = edit_fault.Memory
