use Rattle.feed_run.proofs.LeadSteps.{tellable_behind}
use Rattle.feed_run.proofs.lead.LeadRun.do_read.Goals as goal

pub tell-told-requires-clause-tellable : goal.tell-told-requires-clause-tellable
tell-told-requires-clause-tellable g c =
    tellable_behind c.args.self.now.cube c.do_caught.new.cube c.args.read.now c.in-Ok.did.batch c.requires.within c.in-Ok.ensures.batch c.in-Ok.ensures.state
