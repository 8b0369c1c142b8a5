-- The portions of the facts before this one are found.
use Rattle.iter_alloc.proofs.portions.fact_portions.Given as goal
use Rattle.iter_alloc.proofs.PortionSteps.{Apportioning}

abbrev pub invariant-loop-fact : goal.invariant-loop-fact
invariant-loop-fact l = Apportioning l.space l.fn.r l.portions l.facts.facts l.spots l.fact-iterator l.i l.of_facts.items
