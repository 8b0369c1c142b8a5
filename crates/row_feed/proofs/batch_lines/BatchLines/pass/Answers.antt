-- The walk stands at the next line of the entry, or before those of the next entry.
use Rattle.std.proofs.Common.{arith}
use Rattle.row_feed.proofs.WalkSteps.{pass-more, pass-through}
use Rattle.row_feed.proofs.batch_lines.BatchLines.pass.Goals as goal

pub returns-then-self-as_slice : goal.returns-then-self-as_slice
returns-then-self-as_slice c =
    let inside = c.self.inside in
    pass-more inside.space.now inside.entries.now inside.place inside.ended c.args.self.now c.self.view_is c.self.invariant (omega (arith, c.in-len1-up.len_at_least))

pub returns-else-self-as_slice : goal.returns-else-self-as_slice
returns-else-self-as_slice c =
    let inside = c.self.inside in
    pass-through inside.space.now inside.entries.now inside.place inside.ended c.args.self.now c.entry-item.result c.self.view_is c.self.invariant (omega (arith, c.in-len1-up.len_at_least)) c.entry-item.is
    (rw c.as_slice.ensures at c.if-self-as_slice.false)
