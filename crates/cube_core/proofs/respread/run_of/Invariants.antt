-- The facts before this one are held.
use Rattle.std.proofs.Common.{◌≡◌, ◌++◌}
use Rattle.cube_core.proofs.respread.run_of.Given as goal

abbrev pub invariant-loop-fact : goal.invariant-loop-fact
invariant-loop-fact l = l.run ++ l.fact-iterator ≡ l.facts.facts
