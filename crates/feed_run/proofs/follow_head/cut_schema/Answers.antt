use Rattle.feed_run.proofs.HeadSteps.{schema-stopped, schema-whole}
use Rattle.feed_run.proofs.follow_head.cut_schema.Goals as goal
use Rattle.feed_run.proofs.follow_head.cut_schema.Goals.{in-Ok, in-Err}

pub returns : goal.returns
returns c = elim c.match-judge_schema.branch [
  | in-Ok w ↦ rw w.result-is (schema-whole c.args.feed.now.count _ w.in-Ok.field-0 w.in-Ok.ensures w.cut.result w.cut.ensures)
  | in-Err w ↦ rw w.result-is (schema-stopped c.args.feed.now.count _ w.in-Err.stop w.in-Err.ensures)
]
