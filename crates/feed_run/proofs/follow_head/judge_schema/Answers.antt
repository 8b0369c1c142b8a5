use Rattle.feed_run.proofs.HeadSteps.{schema-early, schema-refused}
use Rattle.feed_run.proofs.follow_head.judge_schema.Goals as goal

pub stop_of_schema-requires : goal.stop_of_schema-requires
stop_of_schema-requires c = schema-early c.args.text.now c.in-Err.fault c.requires c.in-Err.ensures.refused

pub returns-in-Err : goal.returns-in-Err
returns-in-Err c = rw c.stop_of_schema.ensures (schema-refused c.args.text.now c.in-Err.fault c.in-Err.ensures.refused)
