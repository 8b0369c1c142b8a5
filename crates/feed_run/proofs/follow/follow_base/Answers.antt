use Rattle.std.proofs.lemmas.Result.{err_from_is_err_and}
use Rattle.feed_run.proofs.PullsOn.{fewer-then}
use Rattle.feed_run.proofs.follow.follow_base.Goals as goal

pub returns-in_err-schema-clause-follows : goal.returns-in_err-schema-clause-follows
returns-in_err-schema-clause-follows g c = λ base start before.
    let exit = err_from_is_err_and c.from_residual.result c.from_residual.ensures.1 in
    rw (exit.1, exit.2) (c.in_err-schema.ensures.follows base start before)

pub returns-in-Ok-clause-follows : goal.returns-in-Ok-clause-follows
returns-in-Ok-clause-follows g c = λ base start before. c.in-Ok.ensures.follows base start (c.in_ok-schema.ensures.follows base start before)

pub returns-in-Ok-clause-few : goal.returns-in-Ok-clause-few
returns-in-Ok-clause-few g c = fewer-then c.args.feed.now c.follow_head.new.feed c.follow_facts.new.feed c.in_ok-schema.ensures.few c.in-Ok.ensures.few

pub returns-in-Err-clause-follows : goal.returns-in-Err-clause-follows
returns-in-Err-clause-follows g c = λ base start before. c.in-Err.ensures.follows base start (c.in_ok-schema.ensures.follows base start before)
