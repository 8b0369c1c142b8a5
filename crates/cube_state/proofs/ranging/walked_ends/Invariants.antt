-- Some facts are walked past, and the others are left.
use Rattle.cube_state.proofs.Walking.{AreWalked}
use Rattle.cube_state.proofs.ranging.walked_ends.Given as goal

abbrev pub invariant-loop-fact : goal.invariant-loop-fact
invariant-loop-fact l = AreWalked l.column l.facts.facts l.ids l.place l.ends l.fact-iterator
