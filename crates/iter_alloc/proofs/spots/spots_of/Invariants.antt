-- The facts before this one are in spots.
use Rattle.iter_alloc.proofs.spots.spots_of.Given as goal
use Rattle.iter_alloc.proofs.SpotsSoFar.{Spotting}

abbrev pub invariant-loop-fact : goal.invariant-loop-fact
invariant-loop-fact l = Spotting l.space l.facts.facts l.fact-iterator l.codes.keys l.firsts.items l.spots.items
