-- What is planned for what the edit moves is planned for the edit, and the ids that it refreshes are those of facts.
use Rattle.std.proofs.Common.{◌≡◌, ◌+◌, ◌≤◌, length, true, subst}
use Rattle.std.specs.Prelude.{IfErr, IfOk, None, OnOk, Some}
use Rattle.std.proofs.lemmas.Result.{on_ok_weaker}
use Rattle.cube_model.specs.Ascending.{ascends_from}
use Rattle.edit_plan.specs.Bound.{step_bound}
use Rattle.edit_plan.specs.Plan.{IsPlanFaultOf, difference, edit_in, lists_for}
use Rattle.cube_state.specs.State.{judge_in, policy_in, refreshed_in}
use Rattle.edit_plan.proofs.RefreshedIds.{refreshed-ascend}
use Rattle.edit_plan.proofs.planning.plan.Goals as goal

pub returns-clause-ascending : goal.returns-clause-ascending
returns-clause-ascending g c =
    let moves = c.moves-moves.ensures.moves in
    let ascend =
    subst (λ edit. ascends_from (λ id. id) 1 (refreshed_in g.P.WeightPolicy.weigh c.args.state.now edit) ≡ true) c.moves-moves.ensures.edit
    (refreshed-ascend g.P.WeightPolicy.weigh c.args.state.now c.moves-moves.result.edit c.judge.ensures.valid moves.over moves.accepted) in
    on_ok_weaker c.plan_moves.result (λ _. ascend) c.plan_moves.ensures.accepted

pub returns-clause-steps : goal.returns-clause-steps
returns-clause-steps g c =
    subst (λ edit. c.plan_moves.new.steps ≤ c.args.steps.now + step_bound g.P.WeightPolicy.weigh c.args.state.now edit) c.moves-moves.ensures.edit c.plan_moves.ensures.steps

pub returns-clause-edit : goal.returns-clause-edit
returns-clause-edit g c = subst (λ edit. IfOk c.plan_moves.result (λ plan. edit_in plan.change ≡ Some edit)) c.moves-moves.ensures.edit c.plan_moves.ensures.edit

pub returns-clause-count : goal.returns-clause-count
returns-clause-count g c = subst (λ edit. IfOk c.plan_moves.result (λ plan. plan.count ≡ length (refreshed_in g.P.WeightPolicy.weigh c.args.state.now edit))) c.moves-moves.ensures.edit c.plan_moves.ensures.count

pub returns-clause-lists : goal.returns-clause-lists
returns-clause-lists g c =
    subst (λ edit. IfOk c.plan_moves.result (λ plan. plan.lists ≡ lists_for c.args.detail (refreshed_in g.P.WeightPolicy.weigh c.args.state.now edit) (difference (policy_in g.P.WeightPolicy.weigh c.args.state.now) c.args.state.now.dims edit c.args.state.now.facts)))
    c.moves-moves.ensures.edit c.plan_moves.ensures.lists

pub returns-clause-accepted : goal.returns-clause-accepted
returns-clause-accepted g c = subst (λ edit. OnOk c.plan_moves.result (judge_in g.P.WeightPolicy.weigh c.args.state.now edit ≡ None)) c.moves-moves.ensures.edit c.plan_moves.ensures.accepted

pub returns-clause-fault : goal.returns-clause-fault
returns-clause-fault g c = subst (λ edit. IfErr c.plan_moves.result (IsPlanFaultOf g.P.WeightPolicy.weigh c.args.state.now edit)) c.moves-moves.ensures.edit c.plan_moves.ensures.fault
