-- The ids of the facts before this one are gathered.
use Rattle.iter_alloc.proofs.one_component.ids_labelled.Given as goal
use Rattle.iter_alloc.proofs.BesideFacts.{Gathering}

abbrev pub invariant-loop-fact : goal.invariant-loop-fact
invariant-loop-fact l = Gathering l.facts.facts l.labels l.wanted l.fact-iterator l.i l.ids
