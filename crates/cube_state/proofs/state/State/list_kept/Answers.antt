-- A kept view of these cuts is one of all facts.
use Rattle.cube_state.proofs.TableKept.{list-kept}
use Rattle.cube_state.proofs.state.State.list_kept.Goals as goal

pub returns : goal.returns
returns g c =
    list-kept g.P.WeightPolicy.weigh _ _ c.self.view_is c.args.cuts.now c.args.r c.self.invariant.state _ c.columns.ensures.columns c.columns.ensures.each
    c.list_with.result c.list_with.ensures.entries c.list_with.ensures.whole
