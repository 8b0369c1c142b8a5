-- The next view is staged.
use Rattle.std.proofs.Common.{arith}
use Rattle.view_store.specs.Changes.{FitsView}
use Rattle.view_store.proofs.Turns.{IsStaging-next, all-same, all-staged, next-was}
use Rattle.view_store.proofs.views.stage_all.Goals as goal

pub stage-requires-clause-changes : goal.stage-requires-clause-changes
stage-requires-clause-changes c = next-was c.args.space.now c.args.changes.now c.args.views.now c.loop-v.views c.loop-v.v c.loop-v.stages.items c.loop-v.invariant (FitsView c.args.space.now c.args.changes.now) _ (omega (arith, c.loop-v-test.true, c.loop-v.invariant.views)) c.requires.changes

pub returns-in_err-entries-clause-same : goal.returns-in_err-entries-clause-same
returns-in_err-entries-clause-same c = all-same c.args.space.now c.args.changes.now c.args.views.now c.loop-v.views c.loop-v.v c.loop-v.stages.items c.loop-v.invariant _ c.stage.new.self (omega (arith, c.loop-v-test.true, c.loop-v.invariant.views)) c.in_err-entries.ensures.same

pub returns-in_err-push-clause-same : goal.returns-in_err-push-clause-same
returns-in_err-push-clause-same c = all-same c.args.space.now c.args.changes.now c.args.views.now c.loop-v.views c.loop-v.v c.loop-v.stages.items c.loop-v.invariant _ c.stage.new.self (omega (arith, c.loop-v-test.true, c.loop-v.invariant.views)) c.in_ok-entries.ensures.same

pub loop-v-preserved : goal.loop-v-preserved
loop-v-preserved c =
    let next = IsStaging-next c.args.space.now c.args.changes.now c.args.views.now c.loop-v.views c.loop-v.v c.loop-v.stages.items c.loop-v.invariant _ c.stage.new.self c.in_ok-entries.entries.items (omega (arith, c.loop-v-test.true, c.loop-v.invariant.views)) c.in_ok-entries.ensures.same c.in_ok-entries.ensures.room c.in_ok-entries.ensures.made in
    rw (c.in_ok-push.ensures.items, c.from.ensures) next

pub returns-clause-staged : goal.returns-clause-staged
returns-clause-staged c = all-staged c.args.space.now c.args.changes.now c.args.views.now c.loop-v.views c.loop-v.v c.loop-v.stages.items c.loop-v.invariant (omega (arith, c.loop-v-test.false, c.loop-v.invariant.views)) (omega (arith, c.loop-v.auto.v-end, c.loop-v.invariant.views))
