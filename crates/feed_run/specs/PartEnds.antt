-- How the run of a follower ends that stops within a part of a feed.
use Rattle.std.specs.Prelude.{ℕ}
use Rattle.script_run.specs.Stream.{stop_of}
use Rattle.feed_run.specs.declared.follow.FollowStop.{FollowStop}
use Rattle.feed_run.specs.declared.follow.FollowStop.TheVariants as follow_stop
use Rattle.feed_run.specs.declared.part_stop.PartStop.{PartStop}
use Rattle.feed_run.specs.declared.part_stop.PartStop.TheVariants as part_stop

abbrev pub at_part : ℕ → PartStop → FollowStop
at_part applied (part_stop.Feed stop) = follow_stop.Feed stop
at_part applied (part_stop.Input stop) = follow_stop.Stream (stop_of stop applied)
