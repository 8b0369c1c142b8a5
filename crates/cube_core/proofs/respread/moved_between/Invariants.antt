-- Some facts were looked at, and the others are left.
use Rattle.cube_state.specs.State.{policy_in}
use Rattle.cube_core.proofs.Moving.{AreHeld}
use Rattle.cube_core.proofs.respread.moved_between.Given as goal

abbrev pub invariant-loop-fact : goal.invariant-loop-fact
invariant-loop-fact g l = AreHeld (policy_in g.P.WeightPolicy.weigh l.state) l.state.dims l.later.dims l.state.facts l.held.ids l.held.rows l.fact-iterator
