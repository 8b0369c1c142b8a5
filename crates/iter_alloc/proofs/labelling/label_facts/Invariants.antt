-- The facts before this one are labelled.
use Rattle.iter_alloc.proofs.labelling.label_facts.Given as goal
use Rattle.iter_alloc.proofs.LabelsSoFar.{Labelling}

abbrev pub invariant-loop-fact : goal.invariant-loop-fact
invariant-loop-fact l = Labelling l.all.firsts.items l.roots l.facts.facts l.all.spots.items l.fact-iterator l.i l.labels
