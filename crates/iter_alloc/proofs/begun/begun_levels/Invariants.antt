-- The facts before this one are added.
use Rattle.iter_alloc.proofs.begun.begun_levels.Given as goal
use Rattle.iter_alloc.proofs.Beginning.{Beginning}

abbrev pub invariant-loop-fact : goal.invariant-loop-fact
invariant-loop-fact l = Beginning l.space l.cells.keys l.facts.facts l.fact-iterator l.begun.items
