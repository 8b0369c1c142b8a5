-- Each fact comes behind those that are put.
use Rattle.fact_records.proofs.AllPut.{put-next}
use Rattle.fact_records.proofs.list_copies.put_old.Goals as goal

pub loop-fact-preserved : goal.loop-fact-preserved
loop-fact-preserved c = put-next c.loop-fact.invariant _ _ _ _ c.in-Some.ensures.steps c.put.ensures.facts c.put.ensures.spare
