-- The cells of the facts before this one are counted.
use Rattle.iter_alloc.proofs.counting.count_cells.Given as goal
use Rattle.iter_alloc.proofs.Counted.{Counting}

abbrev pub invariant-loop-fact : goal.invariant-loop-fact
invariant-loop-fact l = Counting l.space l.facts.facts l.fact-iterator l.cells
