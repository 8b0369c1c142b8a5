use Rattle.std.proofs.lemmas.Result.{err_from_is_err_and}
use Rattle.feed_run.proofs.follow_head.follow_head.Goals as goal

pub returns-in_err-follow_version-clause-follows : goal.returns-in_err-follow_version-clause-follows
returns-in_err-follow_version-clause-follows g c = λ base start before.
    let exit = err_from_is_err_and c.from_residual.result c.from_residual.ensures.1 in
    rw (exit.1, exit.2) (c.in_err-follow_version.ensures.follows base start before)

pub returns-clause-follows : goal.returns-clause-follows
returns-clause-follows g c = λ base start before. c.follow_schema.ensures.follows base start (c.in_ok-follow_version.ensures.follows base start before)
