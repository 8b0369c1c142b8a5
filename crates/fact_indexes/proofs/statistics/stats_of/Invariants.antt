-- The facts before this one are counted in.
use Rattle.fact_indexes.proofs.Counted.{IsCounting}
use Rattle.fact_indexes.proofs.statistics.stats_of.Given as goal

abbrev pub invariant-loop-fact : goal.invariant-loop-fact
invariant-loop-fact l = IsCounting l.shape l.space l.facts.facts l.fact-iterator l.stats
