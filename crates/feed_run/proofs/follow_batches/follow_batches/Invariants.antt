use Rattle.std.proofs.Common.{◌+◌, ◌≤◌, Option}
use Rattle.fact_keeper.specs.Keeper.{StaysOpen}
use Rattle.feed_run.specs.BatchTurn.{AtWork}
use Rattle.feed_run.specs.Following.{Base}
use Rattle.feed_run.specs.FollowTurn.{AllTold, AreFew, all_told}
use Rattle.feed_run.specs.Pulling.{pulls_left}
use Rattle.feed_run.proofs.follow_batches.follow_batches.Given as goal

-- some batches are applied, no more than lines were pulled
abbrev pub invariant-batches : goal.invariant-batches
invariant-batches g l = record {
  at : (base : Option Base) (start : AllTold) → AtWork base start (all_told g.S.Source.tells g.K.Sink.tells g.Q.Keeper.tells l.fn.source l.fn.out l.fn.keeper) l.fn.feed l.fn.cube 0
      → AtWork base start (all_told g.S.Source.tells g.K.Sink.tells g.Q.Keeper.tells l.source l.out l.keeper) l.feed l.cube l.applied;
  few : AreFew l.feed;
  applied : l.applied + pulls_left l.feed.input ≤ pulls_left l.fn.feed.input;
  open_still : StaysOpen (g.Q.Keeper.tells l.fn.keeper) (g.Q.Keeper.tells l.keeper);
}

abbrev pub decreases-batches : goal.decreases-batches
decreases-batches g l = pulls_left l.feed.input
