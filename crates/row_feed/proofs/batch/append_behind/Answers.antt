-- A line more is appended.
use Rattle.row_feed.proofs.WalkSteps.{behind-more}
use Rattle.row_feed.proofs.batch.append_behind.Goals as goal

pub loop-text-preserved : goal.loop-text-preserved
loop-text-preserved c =
    behind-more c.loop-text.lines c.append_next.new.self c.loop-text.text.items c.append_next.new.text.items c.push.new.self.items _ c.loop-text.invariant (rw c.if-branch.true at c.in_ok-append_next.ensures.next) c.in_ok-push.ensures.items
