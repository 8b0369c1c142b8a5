-- The entry of the next place is left without what is taken away from it.
use Rattle.std.proofs.Common.{arith}
use Rattle.view_store.proofs.TakingAway.{AreLeft-all, AreLeft-next, AreLeft-none, next-can, next-distinct, next-within}
use Rattle.view_store.proofs.drafts.leave_each.Goals as goal

pub loop-i-init : goal.loop-i-init
loop-i-init c = AreLeft-none c.args.columns c.args.entries.now c.args.parts.now c.count-i-end.ensures.distinct c.requires.parts

pub leave_at-requires-clause-place : goal.leave_at-requires-clause-place
leave_at-requires-clause-place c = next-within c.args.columns c.args.entries.now c.args.parts.now c.loop-i.i c.loop-i.parts (omega (arith, c.loop-i-test.true, c.count-i-end.ensures.count)) c.loop-i.invariant

pub leave_at-requires-clause-distinct : goal.leave_at-requires-clause-distinct
leave_at-requires-clause-distinct c = next-distinct c.args.columns c.args.entries.now c.args.parts.now c.loop-i.i c.loop-i.parts (omega (arith, c.loop-i-test.true, c.count-i-end.ensures.count)) c.loop-i.invariant

pub leave_at-requires-clause-there : goal.leave_at-requires-clause-there
leave_at-requires-clause-there c = next-can c.args.columns c.args.entries.now c.args.parts.now c.loop-i.i c.loop-i.parts (omega (arith, c.loop-i-test.true, c.count-i-end.ensures.count)) c.loop-i.invariant c.requires.there

pub loop-i-preserved : goal.loop-i-preserved
loop-i-preserved c = AreLeft-next c.args.columns c.args.entries.now c.args.parts.now c.loop-i.i c.loop-i.parts (omega (arith, c.loop-i-test.true, c.count-i-end.ensures.count)) c.loop-i.invariant c.leave_at.new.parts c.in_ok-leave_at.ensures

pub returns : goal.returns
returns c = AreLeft-all c.args.columns c.args.entries.now c.args.parts.now c.loop-i.i c.loop-i.parts (omega (arith, c.loop-i-test.false, c.count-i-end.ensures.count)) c.loop-i.invariant
