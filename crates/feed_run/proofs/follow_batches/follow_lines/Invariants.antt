use Rattle.std.proofs.Common.{◌≡◌, ◌+◌, List, length, Option}
use Rattle.cube_base.specs.Outside.{SourceTold}
use Rattle.fact_keeper.specs.declared.content.Batch.{Batch}
use Rattle.row_feed.specs.FeedText.{behind_lines}
use Rattle.feed_run.specs.BatchTurn.{AreLeft}
use Rattle.feed_run.specs.Following.{Base, Within, Work}
use Rattle.feed_run.specs.FollowTurn.{AreFew, AreFewer, FollowedTo}
use Rattle.feed_run.proofs.follow_batches.follow_lines.Given as goal

-- some lines of the batch were pulled, and were those that are expected
abbrev pub invariant-lines : goal.invariant-lines
invariant-lines g l = record {
  followed : (base : Option Base) (start : SourceTold) (work : Work) (batches : List Batch) → work.applied + 1 ≡ l.number
      → FollowedTo base start (g.S.Source.tells l.fn.source) l.fn.feed (Within work l.batch (behind_lines l.schema.dims l.batch)) batches → AreLeft base start (g.S.Source.tells l.source) l.feed work l.batch batches l.expected;
  few : AreFew l.feed;
  fewer : AreFewer l.fn.feed l.feed;
}

abbrev pub decreases-lines : goal.decreases-lines
decreases-lines g l = length l.expected
