-- The group of a fact that is found tells how it lies.
use Rattle.cube_state.proofs.Looking.{found-region}
use Rattle.edit_plan.proofs.AllSeen.{lay-seen_none, lay-seen_some}
use Rattle.edit_plan.proofs.whole.lay_so.Goals as goal

pub code-requires : goal.code-requires
code-requires g c = found-region _ _ _ _ _ _ c.facts.ensures.valid c.fact.ensures c.in-Some.is

pub returns-in-Some : goal.returns-in-Some
returns-in-Some g c =
    lay-seen_some g.P.WeightPolicy.weigh c.args.state.now c.facts.ensures.valid c.facts.ensures.trees c.args.id _ _ c.fact.ensures c.in-Some.fact c.code.result c.is_same_spread.result _ c.in-Some.is c.code.ensures c.spread_at.ensures c.is_same_spread.ensures

pub returns-in-None : goal.returns-in-None
returns-in-None g c = lay-seen_none g.P.WeightPolicy.weigh c.args.state.now c.facts.ensures.valid c.facts.ensures.trees c.args.id _ _ c.fact.ensures c.in-None.is
