-- The ids that the plan of an edit refreshes.
use Rattle.std.proofs.Common.{◌≡◌, ℕ, ◌≤◌, true}
use Rattle.std.specs.Prelude.{None}
use Rattle.std.proofs.lemmas.List.Elements.{All-weaker}
use Rattle.cube_model.specs.declared.edit.Edit.{Edit}
use Rattle.cube_model.specs.declared.statistic.CellStat.{CellStat}
use Rattle.cube_model.specs.Ascending.{ascends_from}
use Rattle.cube_model.specs.Facts.{after}
use Rattle.fact_groups.proofs.Refreshing.{ascends-refreshed}
use Rattle.fact_records.specs.Judge.{fact_refusal}
use Rattle.fact_records.specs.Valid.{AreValid, IsEditOver, IsValid}
use Rattle.cube_state.specs.State.{StateValue, policy_in, refreshed_in}
use Rattle.cube_state.proofs.Accepting.{AreValid-after, allowed}

-- the ids that an edit refreshes ascend from the least id of a fact on
pub refreshed-ascend : {P : Type 0} (weigh : P → CellStat → ℕ) (state : StateValue P) (edit : Edit) → AreValid state.shape state.dims state.facts → IsEditOver state.dims edit → fact_refusal state.shape state.dims edit state.facts ≡ None
    → ascends_from (λ id. id) 1 (refreshed_in weigh state edit) ≡ true
refreshed-ascend weigh state edit valid over accepted =
    let later = AreValid-after state.shape state.dims edit state.facts over (allowed state.shape state.dims edit state.facts accepted) valid in
    ascends-refreshed (policy_in weigh state) state.dims edit state.facts valid.ascending 1 (All-weaker (IsValid state.shape state.dims) (λ f. 1 ≤ f.id) (λ f one. one.accepted.placed.id.least) (after edit state.facts) later.each)
