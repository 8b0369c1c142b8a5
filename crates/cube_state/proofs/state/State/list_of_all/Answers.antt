-- The view that is made is one of all facts.
use Rattle.cube_state.proofs.TableKept.{list-full}
use Rattle.cube_state.proofs.state.State.list_of_all.Goals as goal

pub returns : goal.returns
returns g c = list-full g.P.WeightPolicy.weigh _ _ c.self.view_is c.args.cuts c.args.r c.in_ok-view.view (rw c.as_slice.ensures at c.in_ok-view.ensures) c.into_list_under.result c.into_list_under.ensures.entries c.into_list_under.ensures.whole
