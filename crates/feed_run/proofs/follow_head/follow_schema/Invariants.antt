use Rattle.std.proofs.Common.{[], Option}
use Rattle.cube_base.specs.Outside.{SourceTold}
use Rattle.feed_run.specs.Following.{Base, InSchema}
use Rattle.feed_run.specs.FollowTurn.{AreFew, AreFewer, FollowedTo}
use Rattle.feed_run.specs.HeadTurn.{InLines}
use Rattle.feed_run.specs.Pulling.{pulls_left}
use Rattle.feed_run.proofs.follow_head.follow_schema.Given as goal

-- some lines of the schema were pulled, and are gathered
abbrev pub invariant-lines : goal.invariant-lines
invariant-lines g l = record {
  followed : (base : Option Base) (start : SourceTold) → FollowedTo base start (g.S.Source.tells l.fn.source) l.fn.feed (InSchema []) [] → InLines base start (g.S.Source.tells l.source) l.feed l.text.items;
  few : AreFew l.feed;
  fewer : AreFewer l.fn.feed l.feed;
}

abbrev pub decreases-lines : goal.decreases-lines
decreases-lines g l = pulls_left l.feed.input
