-- The fact that is taken was spread as the group of its region.
use Rattle.std.proofs.Common.{◌∙◌, ap}
use Rattle.edit_plan.specs.Refreshing.{is_same_spread}
use Rattle.edit_plan.proofs.OwnPair.{taken-lay, taken-named}
use Rattle.edit_plan.proofs.refreshing.lay_as.Goals as goal

pub code-requires : goal.code-requires
code-requires g c = taken-named g.P.WeightPolicy.weigh c.args.state.now c.facts.ensures.valid c.args.moves.now c.requires.moves c.in-Some.taken c.in-Some.is

pub returns-in-Some : goal.returns-in-Some
returns-in-Some g c =
    taken-lay g.P.WeightPolicy.weigh c.args.state.now c.facts.ensures.valid c.args.moves.now c.requires.moves c.in-Some.taken c.in-Some.is c.is_same_spread.result c.code.result _ _ c.facts.ensures.trees c.code.ensures c.spread_at.ensures (c.is_same_spread.ensures ∙ ap (is_same_spread _) c.spread_now.ensures)
