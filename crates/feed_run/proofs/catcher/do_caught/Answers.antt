use Rattle.std.proofs.Common.{Some, ap, refl}
use Rattle.schema_text.specs.Schema.{weigh_of}
use Rattle.script_run.specs.Kept.{batches_from}
use Rattle.script_run.specs.Run.{state_of}
use Rattle.feed_run.specs.Catching.{Catching}
use Rattle.feed_run.proofs.Caught.{caught_one}
use Rattle.feed_run.proofs.LeadSteps.{few_batches}
use Rattle.feed_run.proofs.catcher.do_caught.Goals as goal

pub returns-in-Ok-clause-batch : goal.returns-in-Ok-clause-batch
returns-in-Ok-clause-batch c =
    let cube = c.args.cube.now in
    let weigh = weigh_of cube.policy in
    caught_one (batches_from weigh cube.schema (state_of cube) c.args.read.now) c.do_read.new.keeper.caught c.take.new.self.caught c.take.result _ _ (few_batches weigh cube.schema (state_of cube) c.args.read.now)
    (ap (λ (k : Catching). Some k.caught) c.new-catcher.ensures) refl c.in-Ok.ensures.kept c.take.ensures.taken c.take.ensures.none
