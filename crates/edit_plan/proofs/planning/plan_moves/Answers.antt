-- The parts of a plan take no more steps than all of it may.
use Rattle.edit_plan.proofs.StepBound.{codes-within, plan-within}
use Rattle.edit_plan.proofs.planning.plan_moves.Goals as goal

pub returns-in_err-regrouped-clause-steps : goal.returns-in_err-regrouped-clause-steps
returns-in_err-regrouped-clause-steps g c =
    codes-within g.P.WeightPolicy.weigh c.args.state.now c.args.moves.now c.requires.moves c.requires.trees _ _ c.regroup_few.ensures.steps

pub returns-clause-steps : goal.returns-clause-steps
returns-clause-steps g c =
    plan-within g.P.WeightPolicy.weigh c.args.state.now c.args.moves.now c.requires.moves c.requires.trees _ _ c.regroup_few.ensures.steps _ c.plan_of.ensures.steps
