-- The facts before this one are added.
use Rattle.iter_alloc.proofs.totals.total_of.Given as goal
use Rattle.iter_alloc.proofs.Totalling.{Totalling}

abbrev pub invariant-loop-fact : goal.invariant-loop-fact
invariant-loop-fact l = Totalling l.fn.column l.fn.columns l.facts.facts l.portions l.fact-iterator l.i l.total
