-- Some facts are picked, and the others are left.
use Rattle.cube_state.specs.State.{policy_in}
use Rattle.cube_core.proofs.Picking.{ArePicked}
use Rattle.cube_core.proofs.ranging.picks_of.Given as goal

abbrev pub invariant-loop-fact : goal.invariant-loop-fact
invariant-loop-fact g l = ArePicked (policy_in g.P.WeightPolicy.weigh l.state) l.state.shape l.state.dims l.state.facts l.extreme l.fn.r l.column l.sum l.picks l.fact-iterator
