-- Nothing is refused of the facts that were put, and there is room for those that are left.
use Rattle.std.proofs.Common.{drop}
use Rattle.fact_records.proofs.SequenceJudging.{AreJudged}
use Rattle.fact_records.proofs.sequence_judge.judge_new.Given as goal

abbrev pub invariant-loop-place : goal.invariant-loop-place
invariant-loop-place l = AreJudged l.shape l.space l.initial.all.facts l.new l.all.facts (drop l.place l.new) l.place l.all.spare
