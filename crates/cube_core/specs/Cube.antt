-- What a cube is and keeps, and what its calls say. What a cube's policy makes cells weigh is an argument of each: its trait says it.
use Rattle.std.specs.Prelude.{◌≡◌, ◌≢◌, ℕ, ◌<◌, List, All, map, nat_abs, Option, Some, None, Result, Err}
use Rattle.cube_base.specs.declared.code.Code.{Code}
use Rattle.cube_base.specs.declared.code.Code.TheVariants as code
use Rattle.cube_base.specs.Outside.{Rose}
use Rattle.cube_model.specs.declared.edit.Fact.{Fact}
use Rattle.cube_model.specs.declared.edit.Edit.{Edit}
use Rattle.cube_model.specs.declared.statistic.CellStat.{CellStat}
use Rattle.cube_model.specs.declared.term.Term.{Term}
use Rattle.cube_model.specs.Allocation.{ExtendedFact, extended, row_count}
use Rattle.cube_model.specs.Answer.{answer}
use Rattle.cube_model.specs.Difference.{refreshed}
use Rattle.cube_model.specs.Facts.{after}
use Rattle.cube_model.specs.Limits.{DEN_LIMIT, WIDE}
use Rattle.edit_plan.specs.Bound.{step_limit}
use Rattle.edit_plan.specs.Plan.{difference}
use Rattle.cube_state.specs.State.{StateValue}
use Rattle.edit_plan.specs.declared.fault.PlanFault.{PlanFault}
use Rattle.edit_plan.specs.declared.fault.PlanFault.TheVariants as plan_fault
use Rattle.fact_keeper.specs.declared.content.Batch.{Batch}
use Rattle.fact_keeper.specs.declared.keeper.KeepError.{KeepError}
use Rattle.fact_keeper.specs.declared.keeper.KeepError.TheVariants as keep_error
use Rattle.fact_records.specs.Judge.{fact_refusal, judge}
use Rattle.fact_records.specs.Shape.{width_of_all}
use Rattle.fact_records.specs.Valid.{AreValid}
use Rattle.schema_text.specs.Schema.{SchemaValue, schema_policy, shape_of}
use Rattle.cube_core.specs.declared.fault.EditFault.{EditFault}
use Rattle.cube_core.specs.declared.fault.EditFault.TheVariants as edit_fault

-- a policy, a schema and facts
pub record CubeValue (P : Type 0) : Type 0 where
  pub policy : P
  pub schema : SchemaValue
  pub facts : List Fact

-- the cube after an edit
abbrev pub edited : {P : Type 0} → Edit → CubeValue P → CubeValue P
edited edit cube = record cube { facts = after edit cube.facts }

-- facts that a cube of a schema may have
abbrev pub AreFactsOf : SchemaValue → List Fact → Type 0
AreFactsOf schema facts = AreValid (shape_of schema) schema.dims facts

-- the rows of facts
abbrev pub rows_over : (CellStat → ℕ) → SchemaValue → List Fact → List ExtendedFact
rows_over weigh schema facts = extended (schema_policy weigh schema) schema.dims facts

-- the rows of a cube's facts
abbrev pub cube_rows : {P : Type 0} → (P → CellStat → ℕ) → CubeValue P → List ExtendedFact
cube_rows weigh cube = rows_over (weigh cube.policy) cube.schema cube.facts

-- what these add up to in a region
abbrev pub cube_answer : {P : Type 0} → (P → CellStat → ℕ) → CubeValue P → List ℕ → List Term
cube_answer weigh cube region = answer (width_of_all cube.schema.measures) cube.schema.dims (cube_rows weigh cube) region

-- why an edit of a cube is refused
abbrev pub cube_judgement : {P : Type 0} → (P → CellStat → ℕ) → CubeValue P → Edit → Option Code
cube_judgement weigh cube edit = judge (schema_policy (weigh cube.policy) cube.schema) (shape_of cube.schema) cube.schema.dims edit cube.facts

-- the ids that an edit of a cube refreshes
abbrev pub cube_refreshed : {P : Type 0} → (P → CellStat → ℕ) → CubeValue P → Edit → List ℕ
cube_refreshed weigh cube edit = refreshed (schema_policy (weigh cube.policy) cube.schema) cube.schema.dims cube.facts (after edit cube.facts)

-- A state is one of a schema: its space, measures and views are the schema's.
pub record IsStateOf {P : Type 0} (schema : SchemaValue) (state : StateValue P) : Type 0 where
  pub dims_are : state.dims ≡ schema.dims
  pub shape_is : state.shape ≡ shape_of schema
  pub cuts_are : state.cuts ≡ map (λ view. view.depths) schema.views

-- what an edit of a cube changes of what is kept
abbrev pub difference_in : {P : Type 0} → (P → CellStat → ℕ) → CubeValue P → Edit → Batch
difference_in weigh cube edit = difference (schema_policy (weigh cube.policy) cube.schema) cube.schema.dims edit cube.facts

-- the most steps of an edit of a cube
abbrev pub step_bound_in : {P : Type 0} → (P → CellStat → ℕ) → CubeValue P → Edit → ℕ
step_bound_in weigh cube edit = step_limit (schema_policy (weigh cube.policy) cube.schema) cube.schema.dims edit cube.facts

-- Why an edit of a cube fails. Where it is refused for the number of rows, that number is reported, else the code. Out
-- of memory is said only where the fact is not refused.
abbrev pub IsFaultOf : {P : Type 0} → (P → CellStat → ℕ) → CubeValue P → Edit → EditFault → Type 0
IsFaultOf weigh cube edit (edit_fault.Code refusal) = (cube_judgement weigh cube edit ≡ Some refusal) × (refusal ≢ code.Rows)
IsFaultOf weigh cube edit (edit_fault.Rows would) = (cube_judgement weigh cube edit ≡ Some code.Rows) × (would ≡ row_count (cube_rows weigh (edited edit cube)))
IsFaultOf weigh cube edit edit_fault.KeepFault = cube_judgement weigh cube edit ≡ None
IsFaultOf weigh cube edit edit_fault.Memory = fact_refusal (shape_of cube.schema) cube.schema.dims edit cube.facts ≡ None

-- what refuses an edit where it is planned, and where it is kept
abbrev pub fault_of_plan : PlanFault → EditFault
fault_of_plan (plan_fault.Code code) = edit_fault.Code code
fault_of_plan (plan_fault.Rows would) = edit_fault.Rows would
fault_of_plan plan_fault.Memory = edit_fault.Memory

abbrev pub fault_of_keeper : KeepError → EditFault
fault_of_keeper keep_error.Failed = edit_fault.KeepFault
fault_of_keeper keep_error.Memory = edit_fault.Memory

-- A keeper's count of faults rises where the edit answers a fault of it, or stands at its last value; with every other answer it stays.
abbrev pub CountsEditFault : {R : Type 0} → ℕ → ℕ → Result R EditFault → Type 0
CountsEditFault old new (Err edit_fault.KeepFault) = Rose old new
CountsEditFault old new _ = new ≡ old

-- a term of an answer: its denominator is one that an allocation may have, and every numerator is below the limit of terms in absolute value
pub record IsBounded (t : Term) : Type 0 where
  pub den : t.den < DEN_LIMIT
  pub count : t.count < WIDE
  pub sums : All (λ sum. nat_abs sum < WIDE) t.sums
