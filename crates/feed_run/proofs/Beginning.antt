-- How a follower begins, once its base was pulled.
use Rattle.std.proofs.Common.{◌≡◌, List, [], length, Option, Err, refl, ap, ◌∙◌, arith}
use Rattle.std.proofs.KnownBytes.{Appends-nil}
use Rattle.cube_base.specs.Outside.{SourceTold}
use Rattle.cube_core.specs.Cube.{CubeValue}
use Rattle.cube_model.specs.declared.edit.Fact.{Fact}
use Rattle.fact_keeper.specs.declared.content.Batch.{Batch}
use Rattle.fact_keeper.specs.Keeper.{KeeperTold}
use Rattle.text_lines.specs.Input.{INPUT_LIMIT}
use Rattle.text_lines.specs.Reading.{Reading}
use Rattle.schema_text.specs.Schema.{SchemaValue}
use Rattle.schema_text.specs.declared.word.PolicyWord.{PolicyWord}
use Rattle.script_run.specs.declared.break_off.BreakOff.TheVariants as break_off
use Rattle.script_run.specs.declared.streaming.StreamStop.TheVariants.{Broke, Read, TooLong}
use Rattle.script_run.specs.Kept.{Commits}
use Rattle.feed_run.specs.declared.follow.FollowStop.{FollowStop}
use Rattle.feed_run.specs.declared.follow.FollowStop.TheVariants.{Feed, Stream}
use Rattle.feed_run.specs.declared.part_stop.PartStop.{PartStop}
use Rattle.feed_run.specs.declared.part_stop.PartStop.TheVariants as part_stop
use Rattle.feed_run.specs.BaseTurn.{GivesBase}
use Rattle.feed_run.specs.BatchTurn.{AtWork, Ends}
use Rattle.feed_run.specs.BeginTurn.{Begins, Begun}
use Rattle.feed_run.specs.Following.{AtStart, Base, Between, InBase, work_of}
use Rattle.feed_run.specs.FollowTurn.{AllTold, AppliesAll, AreFew, FeedPull, FollowedTo, StopsPart, keeper_between}
use Rattle.feed_run.specs.LeadTurn.{KeptNothing}
use Rattle.feed_run.specs.PartEnds.{at_part}
use Rattle.feed_run.specs.Pulling.{IsFresh}
use Rattle.script_run.proofs.Batches.{commits_none}
use Rattle.feed_run.proofs.FollowEnds.{keep-ends, memory-before, part-ends}
use Rattle.feed_run.proofs.Pulls.{pulled_fresh}
use Rattle.feed_run.proofs.PullsLeft.{left-more}
use Rattle.feed_run.proofs.StepsAt.{step-base}
use Rattle.feed_run.proofs.Turns.{moves-on, stops-at}

-- an input of which nothing was taken is followed so far, and has few lines
pub fresh-followed : (base : Option Base) (start : SourceTold) (feed : FeedPull) → IsFresh feed.input → feed.count ≡ 0 → FollowedTo base start start feed AtStart []
fresh-followed base start feed fresh none = record { lines = []; came = record { pulled = pulled_fresh start feed.input fresh; count = none }; is = refl }

pub fresh-few : (feed : FeedPull) → IsFresh feed.input → feed.count ≡ 0 → AreFew feed
fresh-few feed fresh none =
    let room : feed.input.pieces.room ≡ INPUT_LIMIT = ap (λ (r : Reading). r.room) fresh.0 in
    let limit : INPUT_LIMIT ≡ 1073741824 = refl in
    omega (arith, none, left-more feed.input (ap (λ (r : Reading). r.is_ended) fresh.0), room, limit, ap length fresh.1)

-- nothing was written or kept
module _ (start : AllTold) (source : SourceTold) (keeper : KeeperTold) where
  abbrev pub begun_at : AllTold
  begun_at = record { source = source; sink = start.sink; keeper = keeper }

  applies-kept : (batches : List Batch) → Commits batches (keeper_between start.keeper keeper).told (keeper_between start.keeper keeper).told_after → keeper.faults ≡ start.keeper.faults → AppliesAll start begun_at batches 0
  applies-kept batches kept keep = record {
    told = record { kept = kept; written = Appends-nil start.sink.taken };
    write = refl;
    keep = keep;
  }

  applies-nothing : KeptNothing (keeper_between start.keeper keeper) → AppliesAll start begun_at [] 0
  applies-nothing nothing = applies-kept [] (commits_none (keeper_between start.keeper keeper).told (keeper_between start.keeper keeper).told_after nothing.told) nothing.keep

-- its base is not pulled whole
pub base-stops : (base : Option Base) (start : AllTold) (source : SourceTold) (feed : FeedPull) (stop : PartStop) → StopsPart base start.source source feed [] 0 stop → Ends {T = Unit {0}} base start (begun_at start source start.keeper) (Err (at_part 0 stop))
base-stops base start source feed stop part = part-ends base start (begun_at start source start.keeper) feed [] 0 stop part (applies-nothing start source start.keeper (record { told = refl; keep = refl }))

-- or is
module _ (base : Option Base) (start : AllTold) (source : SourceTold) (feed : FeedPull) (schema : SchemaValue) (facts : List Fact) (gives : GivesBase base start.source source feed schema facts) (keeper : KeeperTold) where
  pub begun-work : (cube : CubeValue PolicyWord) → Begun base feed.count schema facts (keeper_between start.keeper keeper) cube → AtWork base start (begun_at start source keeper) feed cube 0
  begun-work cube begun = record {
    work = work_of schema facts;
    count = refl;
    batches = begun.batches;
    followed = moves-on base start.source source feed (InBase schema facts) [] (record { place = Between (work_of schema facts); batches = begun.batches }) gives.followed (step-base base feed.count schema facts feed.line ∙ gives.judged ∙ begun.moves);
    is_cube = begun.is_cube;
    applies = applies-kept start source keeper begun.batches begun.kept begun.keep;
  }

  pub begun-ends : (stop : FollowStop) → Begins base feed.count schema facts (keeper_between start.keeper keeper) (Err stop) → Ends {T = Unit {0}} base start (begun_at start source keeper) (Err stop)
  begun-ends (Feed why) told =
      part-ends base start (begun_at start source keeper) feed [] 0 (part_stop.Feed why) (stops-at base start.source source feed (InBase schema facts) [] why gives.followed (step-base base feed.count schema facts feed.line ∙ gives.judged ∙ told.0))
      (applies-nothing start source keeper told.1)
  begun-ends (Stream (Broke (break_off.Memory done))) told = rw told.0 (memory-before base start (begun_at start source keeper) feed (InBase schema facts) [] 0 refl (applies-nothing start source keeper told.1) gives.followed)
  begun-ends (Stream (Broke (break_off.Keep done))) told =
      let failed = told.1 in
      let still = commits_none (keeper_between start.keeper keeper).told (keeper_between start.keeper keeper).told_after failed.kept.told in
      rw told.0
      (keep-ends base start (begun_at start source keeper) feed (InBase schema facts) (Between (work_of schema facts)) [] failed.batch 0 refl gives.followed (step-base base feed.count schema facts feed.line ∙ gives.judged ∙ failed.moves) refl
      (record { kept = still; written = Appends-nil start.sink.taken }) refl failed.kept.failed)
  begun-ends (Stream (Broke (break_off.Write line))) told = absurd told
  begun-ends (Stream (Broke (break_off.SinkMemory line))) told = absurd told
  begun-ends (Stream (Read done)) told = absurd told
  begun-ends (Stream (TooLong done)) told = absurd told
