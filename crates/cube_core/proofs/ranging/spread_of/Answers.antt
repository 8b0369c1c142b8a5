-- The group of the fact's region is there, and spread as the fact is.
use Rattle.cube_core.proofs.Picking.{named-there, spread-never, spread-told}
use Rattle.cube_core.proofs.ranging.spread_of.Goals as goal

pub code-requires : goal.code-requires
code-requires g c = named-there g.P.WeightPolicy.weigh c.args.state.now c.facts.ensures.valid c.facts.ensures.trees c.args.fact.now c.requires

pub unreachable-requires : goal.unreachable-requires
unreachable-requires g c = spread-never g.P.WeightPolicy.weigh c.args.state.now c.facts.ensures.valid c.facts.ensures.trees c.args.fact.now c.requires _ c.code.ensures _ c.spread_at.ensures c.in_default.is

pub returns : goal.returns
returns g c = spread-told g.P.WeightPolicy.weigh c.args.state.now c.facts.ensures.valid c.facts.ensures.trees c.args.fact.now c.requires _ c.code.ensures _ c.spread_at.ensures _ c.in-Some.is
