use Rattle.std.proofs.Common.{refl, arith}
use Rattle.std.proofs.lemmas.Result.{err_from_is_err_and}
use Rattle.feed_run.specs.Following.{Between}
use Rattle.feed_run.specs.FollowTurn.{AreFewer, all_told}
use Rattle.fact_keeper.proofs.Staying.{stays-trans}
use Rattle.feed_run.proofs.BatchSteps.{work-pulled, work-unpulled, work-whole}
use Rattle.feed_run.proofs.PullsOn.{few-on, fewer-on, fewer-same, fewer-then}
use Rattle.feed_run.proofs.follow_batches.follow_batches.Goals as goal

pub returns-in-Ok-false-clause-ends : goal.returns-in-Ok-false-clause-ends
returns-in-Ok-false-clause-ends g c = λ base start work.
    let was = all_told g.S.Source.tells g.K.Sink.tells g.Q.Keeper.tells c.batches.source c.batches.out c.batches.keeper in
    let now = all_told g.S.Source.tells g.K.Sink.tells g.Q.Keeper.tells c.next.new.source c.batches.out c.batches.keeper in
    let at = c.batches.invariant.at base start work in
    let whole = rw c.in-Ok-false.field-0-test at (c.in-Ok-false.ensures.pulls base start.source (Between at.work) at.batches at.followed) in
    work-whole base start was now c.batches.feed c.next.new.self c.batches.cube c.batches.applied at refl refl whole

pub returns-in-Err-clause-ends : goal.returns-in-Err-clause-ends
returns-in-Err-clause-ends g c = λ base start work.
    let was = all_told g.S.Source.tells g.K.Sink.tells g.Q.Keeper.tells c.batches.source c.batches.out c.batches.keeper in
    let now = all_told g.S.Source.tells g.K.Sink.tells g.Q.Keeper.tells c.next.new.source c.batches.out c.batches.keeper in
    let at = c.batches.invariant.at base start work in
    rw c.at.ensures (work-unpulled base start was now c.batches.feed c.next.new.self c.batches.cube c.batches.applied at refl refl c.in-Err.stop (c.in-Err.ensures.pulls base start.source (Between at.work) at.batches at.followed))

pub returns-in_err-follow_batch-in-Ok-true-clause-ends : goal.returns-in_err-follow_batch-in-Ok-true-clause-ends
returns-in_err-follow_batch-in-Ok-true-clause-ends g c = λ base start work.
    let exit = err_from_is_err_and c.from_residual.result c.from_residual.ensures.1 in
    let was = all_told g.S.Source.tells g.K.Sink.tells g.Q.Keeper.tells c.batches.source c.batches.out c.batches.keeper in
    let now = all_told g.S.Source.tells g.K.Sink.tells g.Q.Keeper.tells c.next.new.source c.batches.out c.batches.keeper in
    let at = c.batches.invariant.at base start work in
    let pulled = work-pulled base start was now c.batches.feed c.next.new.self c.batches.cube c.batches.applied at refl refl (rw c.in-Ok-true.field-0-test at (c.in-Ok-true.ensures.pulls base start.source (Between at.work) at.batches at.followed)) in
    rw (exit.1, exit.2) (c.in_err-follow_batch-in-Ok-true.ensures.follows base start pulled)

pub batches-init : goal.batches-init
batches-init g c = record { at = λ base start work. work; few = c.requires.few; applied = omega arith; open_still = record { is_open = c.requires.open; name = refl; loads = refl } }

pub batches-preserved : goal.batches-preserved
batches-preserved g c =
    let pulled : AreFewer c.batches.feed c.next.new.self = fewer-on c.batches.feed c.batches.feed c.next.new.self c.in-Ok-true.field-0 c.in-Ok-true.field-0-test (fewer-same c.batches.feed) c.in-Ok-true.ensures.counted c.in-Ok-true.ensures.fewer in
    let less = c.in-Ok-true.ensures.fewer c.in-Ok-true.field-0-test in
    let followed : AreFewer c.next.new.self c.follow_batch.new.feed = c.in_ok-follow_batch-in-Ok-true.ensures.few in
    record {
      at = λ base start work.
          let was = all_told g.S.Source.tells g.K.Sink.tells g.Q.Keeper.tells c.batches.source c.batches.out c.batches.keeper in
          let now = all_told g.S.Source.tells g.K.Sink.tells g.Q.Keeper.tells c.next.new.source c.batches.out c.batches.keeper in
          let at = c.batches.invariant.at base start work in
          c.in_ok-follow_batch-in-Ok-true.ensures.follows base start
          (work-pulled base start was now c.batches.feed c.next.new.self c.batches.cube c.batches.applied at refl refl (rw c.in-Ok-true.field-0-test at (c.in-Ok-true.ensures.pulls base start.source (Between at.work) at.batches at.followed)));
      few = few-on c.batches.feed c.follow_batch.new.feed c.batches.invariant.few (fewer-then c.batches.feed c.next.new.self c.follow_batch.new.feed pulled followed);
      applied = omega (arith, c.batches.invariant.applied, less, followed.left);
      open_still = stays-trans _ _ _ c.batches.invariant.open_still c.follow_batch.ensures.stays_open;
    }

pub batches-smaller : goal.batches-smaller
batches-smaller g c =
    let less = c.in-Ok-true.ensures.fewer c.in-Ok-true.field-0-test in
    let followed : AreFewer c.next.new.self c.follow_batch.new.feed = c.in_ok-follow_batch-in-Ok-true.ensures.few in
    omega (arith, less, followed.left)

pub returns-in_err-follow_batch-in-Ok-true-clause-stays_open : goal.returns-in_err-follow_batch-in-Ok-true-clause-stays_open
returns-in_err-follow_batch-in-Ok-true-clause-stays_open g c = stays-trans _ _ _ c.batches.invariant.open_still c.follow_batch.ensures.stays_open
