-- The patterns of the facts before this one are known.
use Rattle.cube_state.proofs.Knowing.{Noting}
use Rattle.cube_state.proofs.noting.patterns_of.Given as goal

abbrev pub invariant-loop-fact : goal.invariant-loop-fact
invariant-loop-fact l = Noting l.space l.facts.facts l.fact-iterator l.patterns
