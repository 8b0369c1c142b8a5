-- It holds those of one more.
use Rattle.std.proofs.Common.{arith}
use Rattle.view_store.proofs.Alone.{held-all, held-next}
use Rattle.view_store.proofs.drafts.holds_all.Goals as goal

pub loop-change-preserved : goal.loop-change-preserved
loop-change-preserved c =
    held-next c.args.cuts.now.dims c.args.cuts.now.depths c.args.changes.now c.args.code c.loop-change.change-index c.loop-change.invariant c.change-item.result c.loop-change-test.true c.change-item.is c.in-Some.over c.in-Some.ensures.over (omega (arith, c.if-over-code.false))

pub returns : goal.returns
returns c = λ yes. held-all c.args.cuts.now.dims c.args.cuts.now.depths c.args.changes.now c.args.code c.loop-change.change-index c.loop-change.invariant (omega (arith, c.loop-change-test.false))
