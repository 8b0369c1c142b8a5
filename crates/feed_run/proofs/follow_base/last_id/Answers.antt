use Rattle.feed_run.proofs.BaseFacts.{last-id}
use Rattle.feed_run.proofs.follow_base.last_id.Goals as goal

pub returns-in-Some : goal.returns-in-Some
returns-in-Some c = last-id c.args.facts.now c.in-Some.fact.now c.in-Some.ensures.value
