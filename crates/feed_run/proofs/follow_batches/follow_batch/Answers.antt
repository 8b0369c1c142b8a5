use Rattle.std.proofs.Common.{sym}
use Rattle.feed_run.specs.FollowTurn.{all_told}
use Rattle.feed_run.proofs.BatchSteps.{take-stops}
use Rattle.feed_run.proofs.follow_batches.follow_batch.Goals as goal

pub returns-in-Err-clause-follows : goal.returns-in-Err-clause-follows
returns-in-Err-clause-follows g c = λ base start at.
    let was = all_told g.S.Source.tells g.K.Sink.tells g.Q.Keeper.tells c.args.source.now c.args.out.now c.args.keeper.now in
    let told = rw (c.count.ensures, c.line.ensures) at (c.in-Err.ensures.takes at.work at.is_cube at.count) in
    rw c.at.ensures (take-stops base start was c.args.feed.now c.args.cube.now c.args.applied at c.in-Err.stop told)

pub finish_batch-followed-requires-clause-rows : goal.finish_batch-followed-requires-clause-rows
finish_batch-followed-requires-clause-rows g c = rw c.schema.ensures c.in-Ok.ensures.rows

pub returns-clause-follows : goal.returns-clause-follows
returns-clause-follows g c = λ base start at.
    let taken = rw (c.count.ensures, c.line.ensures) at (c.in-Ok.ensures.takes at.work at.is_cube at.count) in
    c.finish_batch-followed.ensures.follows base start c.args.cube.now c.take_batch.new.cube at (sym c.schema.ensures) taken
