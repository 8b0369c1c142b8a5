use Rattle.feed_run.proofs.BaseBegins.{whole-is}
use Rattle.feed_run.proofs.begin.whole_batch.Goals as goal

pub unreachable-requires : goal.unreachable-requires
unreachable-requires c = c.in_default.not-Some c.requires.0 c.requires.1

pub returns-in-Ok : goal.returns-in-Ok
returns-in-Ok c = λ batch is. whole-is c.args.caught c.in-Some.batch batch c.in-Ok.text _ c.in-Some.is is c.in-Ok.ensures.text
