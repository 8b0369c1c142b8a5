-- New facts, planned all at once.
use Rattle.std.specs.Prelude.{◌≡◌, ◌<◌, ◌&&◌, ◌==◌, ℕ, Bool, List, [], filter, map, not, ⊤, None}
use Rattle.std.specs.List.{list_any}
use Rattle.cube_model.specs.declared.edit.Fact.{Fact}
use Rattle.cube_model.specs.declared.statistic.CellStat.{CellStat}
use Rattle.cube_model.specs.Allocation.{Allocation, ExtendedFact, Policy, allocation, extended, row_count}
use Rattle.cube_model.specs.Cells.{is_among}
use Rattle.cube_model.specs.Difference.{is_same, lies_as_before, refreshed}
use Rattle.cube_model.specs.Facts.{has_id}
use Rattle.cube_model.specs.Limits.{MAX_ROWS}
use Rattle.cube_model.specs.Tree.{Dimension}
use Rattle.fact_keeper.specs.declared.content.Batch.{Batch}
use Rattle.fact_keeper.specs.declared.content.KeptFact.{KeptFact}
use Rattle.fact_keeper.specs.declared.content.KeptRows.{KeptRows}
use Rattle.fact_records.specs.New.{put_all}
use Rattle.fact_indexes.specs.declared.fault.TooMany.{TooMany}
use Rattle.fact_indexes.specs.declared.fault.TooMany.TheVariants as too_many
use Rattle.edit_plan.specs.declared.fault.PlanAllFault.{PlanAllFault}
use Rattle.edit_plan.specs.declared.fault.PlanAllFault.TheVariants as plan_all_fault
use Rattle.edit_plan.specs.Plan.{kept_fact, kept_rows}
use Rattle.cube_state.specs.State.{StateValue, policy_in}

-- the facts of a state with new ones
abbrev pub facts_with_new : {P : Type 0} → StateValue P → List Fact → List Fact
facts_with_new state new = put_all new state.facts

-- the ids that new facts refresh
abbrev pub refreshed_by : {P : Type 0} → (P → CellStat → ℕ) → StateValue P → List Fact → List ℕ
refreshed_by weigh state new = refreshed (policy_in weigh state) state.dims state.facts (facts_with_new state new)

-- the rows of the facts then
abbrev pub rows_with_new : {P : Type 0} → (P → CellStat → ℕ) → StateValue P → List Fact → List ExtendedFact
rows_with_new weigh state new = extended (policy_in weigh state) state.dims (facts_with_new state new)

-- What new facts change of what is kept: they are put, in order of their ids, and so are the rows of the facts that they refresh.
abbrev pub difference_with : Policy → List Dimension → List Fact → List Fact → Batch
difference_with policy dims new facts = record {
  schema = None;
  gone = [];
  facts = map kept_fact (filter (λ f. has_id f.id new) (put_all new facts));
  rows = map kept_rows (filter (λ e. is_among (refreshed policy dims facts (put_all new facts)) e.id) (extended policy dims (put_all new facts)));
}

-- one of the facts has the id, and is spread so
abbrev pub lay_so : Policy → List Dimension → List Fact → ℕ → Allocation → Bool
lay_so policy dims facts id spread = list_any (λ f. f.id == id && is_same (allocation policy dims facts f) spread) facts

-- a fact of the later ones is new or its allocation changed
abbrev pub lies_otherwise : Policy → List Dimension → List Fact → List Fact → Fact → Bool
lies_otherwise policy dims facts later fact = not (lies_as_before policy dims facts later fact)

-- the rows of a fact of the later ones, as they are kept
abbrev pub rows_among : Policy → List Dimension → List Fact → Fact → KeptRows
rows_among policy dims later fact = kept_rows (record { id = fact.id; values = fact.cols; allocation = allocation policy dims later fact })

-- of some of the later facts, those that are new or whose allocation changed: their ids, and their rows
abbrev pub ids_otherwise : Policy → List Dimension → List Fact → List Fact → List Fact → List ℕ
ids_otherwise policy dims facts later some = map (λ f. f.id) (filter (lies_otherwise policy dims facts later) some)

abbrev pub rows_otherwise : Policy → List Dimension → List Fact → List Fact → List Fact → List KeptRows
rows_otherwise policy dims facts later some = map (rows_among policy dims later) (filter (lies_otherwise policy dims facts later) some)

-- of some facts, those whose ids are not there before, as they are kept
abbrev pub new_kept : List Fact → List Fact → List KeptFact
new_kept facts some = map kept_fact (filter (λ f. not (has_id f.id facts)) some)

-- What the later facts change of what is kept, where no fact is gone and those that stay have their values.
abbrev pub batch_otherwise : Policy → List Dimension → List Fact → List Fact → Batch
batch_otherwise policy dims facts later = record { schema = None; gone = []; facts = new_kept facts later; rows = rows_otherwise policy dims facts later later }

-- Why new facts are not planned: there would be too many rows, so many; or out of memory, of which nothing is said.
abbrev pub IsAllFaultOf : {P : Type 0} → (P → CellStat → ℕ) → StateValue P → List Fact → PlanAllFault → Type 0
IsAllFaultOf weigh state new (plan_all_fault.Rows would) = (would ≡ row_count (rows_with_new weigh state new)) × (MAX_ROWS < would)
IsAllFaultOf weigh state new plan_all_fault.Memory = ⊤

-- what is answered where not all is kept
abbrev pub fault_of_kept : TooMany → PlanAllFault
fault_of_kept (too_many.Rows would) = plan_all_fault.Rows would
fault_of_kept too_many.Memory = plan_all_fault.Memory
