-- A fact more is counted in.
use Rattle.fact_indexes.proofs.Counted.{IsCounting-next, few-next}
use Rattle.fact_indexes.proofs.statistics.stats_of.Goals as goal

pub count_in-requires-clause-few : goal.count_in-requires-clause-few
count_in-requires-clause-few c = few-next _ _ _ _ _ _ c.in-Some.ensures.steps _ c.loop-fact.invariant _ c.cell_of_fact.ensures.lying c.requires.few

pub loop-fact-preserved : goal.loop-fact-preserved
loop-fact-preserved c = IsCounting-next _ _ _ _ _ _ c.in-Some.ensures.steps _ c.loop-fact.invariant _ c.cell_of_fact.ensures.lying _ c.in_ok-count_in.ensures
