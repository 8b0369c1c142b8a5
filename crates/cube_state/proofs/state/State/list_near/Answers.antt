-- The view that is made is the only one.
use Rattle.cube_state.proofs.TableKept.{list-made}
use Rattle.cube_state.proofs.state.State.list_near.Goals as goal

pub returns : goal.returns
returns g c = list-made g.P.WeightPolicy.weigh _ _ c.self.view_is c.args.cuts c.args.r c.in_ok-view.view c.in_ok-view.ensures c.list_under.result c.list_under.ensures.entries c.list_under.ensures.whole
