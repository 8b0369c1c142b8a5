-- None of the facts before this one has the id.
use Rattle.iter_alloc.proofs.one_component.label_of.Given as goal
use Rattle.iter_alloc.proofs.BesideFacts.{Looking}

abbrev pub invariant-loop-fact : goal.invariant-loop-fact
invariant-loop-fact l = Looking l.facts.facts l.labels l.id l.fact-iterator l.i
