-- The patterns are those of the new facts.
use Rattle.cube_state.proofs.NewKept.{knowing-all, regions-all}
use Rattle.cube_state.proofs.state.State.replace.Goals as goal

pub patterns_of-patterns-requires : goal.patterns_of-patterns-requires
patterns_of-patterns-requires g c = regions-all g.P.WeightPolicy.weigh _ _ c.self.view_is c.args.all c.requires

pub invariant_of-self : goal.invariant_of-self
invariant_of-self g c =
    rw (c.replace.ensures.after, c.replace-2.ensures.after, c.replace-3.ensures.after, c.replace-4.ensures.after, c.replace-5.ensures.after, c.replace-6.ensures.after)
    (knowing-all g.P.WeightPolicy.weigh _ _ c.self.view_is c.args.all c.requires _ c.patterns_of-patterns.ensures)
