-- Some facts were looked at, and the others are left.
use Rattle.cube_state.specs.State.{policy_in}
use Rattle.store_audit.proofs.Walking.{AreWalked}
use Rattle.store_audit.proofs.mending.rows_to_put.Given as goal

abbrev pub invariant-loop-fact : goal.invariant-loop-fact
invariant-loop-fact g l = AreWalked (policy_in g.P.WeightPolicy.weigh l.state) l.state.dims l.state.facts l.kept l.rows l.fact-iterator
