-- The ends of the facts at the codes are those of all facts.
use Rattle.std.proofs.Common.{◌∙◌}
use Rattle.world_range.specs.declared.extreme.Extreme.TheVariants.{Greatest, Least}
use Rattle.cube_state.proofs.EndsOver.{ends-held, ends-touching}
use Rattle.cube_state.proofs.state.State.ends.Goals as goal

pub returns-in-Some-clause-least : goal.returns-in-Some-clause-least
returns-in-Some-clause-least g c =
    ends-touching g.P.WeightPolicy.weigh _ _ c.self.view_is c.self.invariant.state c.self.invariant.state.trees c.count.ensures.distinct c.count.ensures.once c.args.r _ c.inside.ensures Least c.args.column _ (c.as_slice.ensures ∙ (rw c.in-Some.is at c.in_ok-codes.ensures.codes)) _ c.ends_at.ensures.least

pub returns-in-Some-clause-greatest : goal.returns-in-Some-clause-greatest
returns-in-Some-clause-greatest g c =
    ends-touching g.P.WeightPolicy.weigh _ _ c.self.view_is c.self.invariant.state c.self.invariant.state.trees c.count.ensures.distinct c.count.ensures.once c.args.r _ c.inside.ensures Greatest c.args.column _ (c.as_slice.ensures ∙ (rw c.in-Some.is at c.in_ok-codes.ensures.codes)) _ c.ends_at.ensures.greatest

pub returns-in-None-clause-least : goal.returns-in-None-clause-least
returns-in-None-clause-least g c =
    ends-held g.P.WeightPolicy.weigh _ _ c.self.view_is c.self.invariant.state c.self.invariant.state.trees c.count.ensures.distinct c.count.ensures.once c.args.r _ c.inside-in-None.ensures Least c.args.column _ c.ends_of_all.ensures.least

pub returns-in-None-clause-greatest : goal.returns-in-None-clause-greatest
returns-in-None-clause-greatest g c =
    ends-held g.P.WeightPolicy.weigh _ _ c.self.view_is c.self.invariant.state c.self.invariant.state.trees c.count.ensures.distinct c.count.ensures.once c.args.r _ c.inside-in-None.ensures Greatest c.args.column _ c.ends_of_all.ensures.greatest
