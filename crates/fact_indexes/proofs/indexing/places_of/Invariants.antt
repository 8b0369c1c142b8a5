-- The places of the facts before this one are gathered.
use Rattle.fact_indexes.proofs.Placed.{IsGathering}
use Rattle.fact_indexes.proofs.indexing.places_of.Given as goal

abbrev pub invariant-loop-fact : goal.invariant-loop-fact
invariant-loop-fact l = IsGathering l.space l.facts.facts l.fact-iterator l.places.items
