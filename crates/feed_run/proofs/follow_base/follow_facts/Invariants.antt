use Rattle.std.proofs.Common.{[], Option}
use Rattle.cube_base.specs.Outside.{SourceTold}
use Rattle.cube_core.specs.Cube.{AreFactsOf}
use Rattle.feed_run.specs.Following.{Base, InBase}
use Rattle.feed_run.specs.FollowTurn.{AreFew, AreFewer, FollowedTo}
use Rattle.feed_run.specs.Pulling.{pulls_left}
use Rattle.feed_run.proofs.follow_base.follow_facts.Given as goal

-- some facts were pulled, all of which a cube may have
abbrev pub invariant-facts : goal.invariant-facts
invariant-facts g l = record {
  valid : AreFactsOf l.schema l.facts;
  followed : (base : Option Base) (start : SourceTold) → FollowedTo base start (g.S.Source.tells l.fn.source) l.fn.feed (InBase l.schema []) [] → FollowedTo base start (g.S.Source.tells l.source) l.feed (InBase l.schema l.facts) [];
  few : AreFew l.feed;
  fewer : AreFewer l.fn.feed l.feed;
}

abbrev pub decreases-facts : goal.decreases-facts
decreases-facts g l = pulls_left l.feed.input
