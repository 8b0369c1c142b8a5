-- A fact more is looked at.
use Rattle.fact_indexes.proofs.Placed.{IsGathering-next}
use Rattle.fact_indexes.proofs.indexing.places_of.Goals as goal

pub loop-fact-preserved : goal.loop-fact-preserved
loop-fact-preserved c = IsGathering-next _ _ _ _ _ c.in-Some.ensures.steps _ _ c.loop-fact.invariant c.in_ok-gather.ensures
