-- What a plan is, when it may be installed, and why there is none.
use Rattle.std.specs.Prelude.{◌≡◌, ◌≢◌, ℕ, List, All, filter, map, Option, Some, None}
use Rattle.std.specs.Option.{option_and_then, option_to_list}
use Rattle.cube_base.specs.declared.code.Code.TheVariants as code
use Rattle.cube_model.specs.declared.edit.Edit.{Edit}
use Rattle.cube_model.specs.declared.edit.Fact.{Fact}
use Rattle.cube_model.specs.declared.statistic.CellStat.{CellStat}
use Rattle.cube_model.specs.Allocation.{ExtendedFact, Policy, extended, row_count}
use Rattle.cube_model.specs.Cells.{is_among}
use Rattle.cube_model.specs.Difference.{refreshed}
use Rattle.cube_model.specs.Facts.{after}
use Rattle.cube_model.specs.Tree.{Dimension}
use Rattle.fact_keeper.specs.declared.content.Batch.{Batch}
use Rattle.fact_keeper.specs.declared.content.KeptFact.{KeptFact}
use Rattle.fact_keeper.specs.declared.content.KeptRows.{KeptRows}
use Rattle.fact_groups.specs.Edits.{given}
use Rattle.fact_indexes.specs.declared.kept.FactsKept.{FactsKept}
use Rattle.fact_records.specs.Judge.{fact_refusal}
use Rattle.fact_records.specs.New.{AreNew, put_all}
use Rattle.cube_state.specs.Sets.{AreAllFor, IsEditFor}
use Rattle.cube_state.specs.State.{StateValue, judge_in, rows_after, withdrawn}
use Rattle.edit_plan.specs.declared.plan_lists.Detail.{Detail}
use Rattle.edit_plan.specs.declared.plan_lists.Detail.TheVariants as detail
use Rattle.edit_plan.specs.declared.plan_lists.PlanLists.{PlanLists}
use Rattle.edit_plan.specs.declared.plan_change.PlanChange.{PlanChange}
use Rattle.edit_plan.specs.declared.plan_change.PlanChange.TheVariants as plan_change
use Rattle.edit_plan.specs.declared.fault.PlanFault.{PlanFault}
use Rattle.edit_plan.specs.declared.fault.PlanFault.TheVariants as plan_fault

-- a fact, and the rows of one, as they are kept
abbrev pub kept_fact : Fact → KeptFact
kept_fact fact = record { id = fact.id; nodes = fact.region; cols = fact.cols }

abbrev pub kept_rows : ExtendedFact → KeptRows
kept_rows e = record { id = e.id; den = e.allocation.den; rows = e.allocation.rows }

-- What an edit changes of what is kept: a withdrawn id is deleted, the new fact is put, and so are the rows of the
-- facts that the edit refreshes.
abbrev pub difference : Policy → List Dimension → Edit → List Fact → Batch
difference policy dims edit facts = record {
  schema = None;
  gone = option_to_list (withdrawn edit);
  facts = map kept_fact (option_to_list (given edit));
  rows = map kept_rows (filter (λ e. is_among (refreshed policy dims facts (after edit facts)) e.id) (extended policy dims (after edit facts)));
}

-- a plan: what it does, how many ids it refreshes, and its lists, if it has them
pub record PlanValue : Type 0 where
  pub change : PlanChange
  pub count : ℕ
  pub lists : Option PlanLists

-- the lists that a plan has of the ids that it refreshes and of its batch
abbrev pub lists_for : Detail → List ℕ → Batch → Option PlanLists
lists_for detail.Number refreshed batch = None
lists_for detail.Lists refreshed batch = Some (record { refreshed = refreshed; batch = batch })

-- the edit that a plan does, if it does one
abbrev pub edit_in : PlanChange → Option Edit
edit_in (plan_change.Edit edit sets rows) = Some edit
edit_in (plan_change.All new all) = None

-- the new facts that it puts, if it puts such all at once
abbrev pub new_in : PlanChange → Option (List Fact)
new_in (plan_change.Edit edit sets rows) = None
new_in (plan_change.All new all) = Some new.value

-- the id that it withdraws, if it withdraws one
abbrev pub withdrawn_in : PlanChange → Option ℕ
withdrawn_in change = option_and_then withdrawn (edit_in change)

-- the facts that it leaves
abbrev pub facts_after : PlanChange → List Fact → List Fact
facts_after (plan_change.Edit edit sets rows) facts = after edit facts
facts_after (plan_change.All new all) facts = put_all new.value facts

-- New facts fit a state, with all that is kept then: the state accepts them, in their order and the number of rows aside; the
-- facts that are kept are its own with these; and what is kept of them is what they make it.
pub record AreNewFor {P : Type 0} (weigh : P → CellStat → ℕ) (state : StateValue P) (new : List Fact) (all : FactsKept) : Type 0 where
  pub accepted : AreNew state.shape state.dims state.facts new
  pub facts : all.facts.facts ≡ put_all new state.facts
  pub kept : AreAllFor weigh state all

-- what a plan does fits a state
abbrev pub IsChangeFor : {P : Type 0} → (P → CellStat → ℕ) → StateValue P → PlanChange → Type 0
IsChangeFor weigh state (plan_change.Edit edit sets rows) = IsEditFor weigh state edit sets rows
IsChangeFor weigh state (plan_change.All new all) = AreNewFor weigh state new.value all.value

-- and so does a plan
abbrev pub IsPlanFor : {P : Type 0} → (P → CellStat → ℕ) → StateValue P → PlanValue → Type 0
IsPlanFor weigh state plan = IsChangeFor weigh state plan.change

-- Why an edit is not planned. Where it is refused for the number of rows, that number is reported, else the code. Out
-- of memory is said only where the fact is not refused.
abbrev pub IsPlanFaultOf : {P : Type 0} → (P → CellStat → ℕ) → StateValue P → Edit → PlanFault → Type 0
IsPlanFaultOf weigh state edit (plan_fault.Code refusal) = (judge_in weigh state edit ≡ Some refusal) × (refusal ≢ code.Rows)
IsPlanFaultOf weigh state edit (plan_fault.Rows would) = (judge_in weigh state edit ≡ Some code.Rows) × (would ≡ row_count (rows_after weigh state edit))
IsPlanFaultOf weigh state edit plan_fault.Memory = fact_refusal state.shape state.dims edit state.facts ≡ None
