-- Where a follower stands between two calls: which lines were pulled, where they lead, and what is applied of them.
use Rattle.std.specs.Prelude.{◌≡◌, ℕ, ◌+◌, ◌<◌, ◌≤◌, ◌^◌, Bool, true, false, List, [], ◌∷◌, ◌++◌, ◌⊎◌, length, Option, Some, None, Result, Ok, Err}
use Rattle.cube_base.specs.Outside.{SinkTold, SourceTold}
use Rattle.cube_core.specs.Cube.{CubeValue}
use Rattle.fact_keeper.specs.declared.content.Batch.{Batch}
use Rattle.fact_keeper.specs.Keeper.{KeeperTold}
use Rattle.text_lines.specs.declared.input.InputStop.{InputStop}
use Rattle.text_lines.specs.declared.input.InputStop.TheVariants as input_stop
use Rattle.text_lines.specs.declared.piece_reader.LineInput.{LineInput}
use Rattle.schema_text.specs.declared.word.PolicyWord.{PolicyWord}
use Rattle.script_run.specs.Run.{schema_at}
use Rattle.script_run.specs.Seen.{KeeperSeen, SeenAll, SinkSeen}
use Rattle.feed_run.specs.declared.feed_stop.FeedStop.{FeedStop}
use Rattle.feed_run.specs.declared.part_stop.PartStop.{PartStop}
use Rattle.feed_run.specs.declared.part_stop.PartStop.TheVariants.{Feed, Input}
use Rattle.feed_run.specs.FollowEnd.{Applied}
use Rattle.feed_run.specs.Following.{Base, Followed, Moved, Place, Work, applied_at, cut_at, followed}
use Rattle.feed_run.specs.Pulling.{Pulled, PulledAll, PulledEnded, PulledSome, PulledTooMuch, pulls_left}

-- the lines of a feed as they are pulled: what is held of them, the one that was pulled last, and how many were
pub record FeedPull : Type 0 where
  pub input : LineInput
  pub line : List ℕ
  pub count : ℕ

-- so few lines were pulled, and may still be, that they can be counted; and not more may be than before
abbrev pub AreFew : FeedPull → Type 0
AreFew feed = feed.count + pulls_left feed.input < 2 ^ 62

pub record AreFewer (before after : FeedPull) : Type 0 where
  pub all : after.count + pulls_left after.input ≤ before.count + pulls_left before.input
  pub left : pulls_left after.input ≤ pulls_left before.input

-- what so many lines do that stop nowhere, and what they do where the last of them stops
abbrev pub standing : Place → List Batch → ℕ → Followed
standing place batches lines = record { place = place; batches = batches; stop = None; lines = lines }

abbrev pub stopped : Place → List Batch → FeedStop → ℕ → Followed
stopped place batches stop lines = record { place = place; batches = batches; stop = Some stop; lines = lines }

-- lines came so, lead to a place, and commit these batches
pub record FollowedAs (Came : List (List ℕ) → Type 0) (base : Option Base) (place : Place) (batches : List Batch) : Type 0 where
  pub lines : List (List ℕ)
  pub came : Came lines
  pub is : followed base lines ≡ standing place batches (length lines)

-- these lines were pulled, and are counted
pub record IsPulled (start now : SourceTold) (feed : FeedPull) (lines : List (List ℕ)) : Type 0 where
  pub pulled : Pulled start now feed.input lines
  pub count : feed.count ≡ length lines

-- these are all lines of the input, and are counted
pub record IsPulledAll (start now : SourceTold) (feed : FeedPull) (lines : List (List ℕ)) : Type 0 where
  pub pulled : PulledAll start now lines
  pub count : feed.count ≡ length lines

-- all lines that were pulled lead to a place
abbrev pub FollowedTo : Option Base → SourceTold → SourceTold → FeedPull → Place → List Batch → Type 0
FollowedTo base start now feed place batches = FollowedAs (IsPulled start now feed) base place batches

-- those before the one that was pulled last do
abbrev pub FollowedBefore : Option Base → SourceTold → SourceTold → FeedPull → Place → List Batch → Type 0
FollowedBefore base start now feed place batches = FollowedAs (λ lines. IsPulled start now feed (lines ++ feed.line ∷ [])) base place batches

-- Why no line more was pulled after those that lead to a place.
abbrev pub StopsPulling : Option Base → SourceTold → SourceTold → Place → List Batch → InputStop → Type 0
StopsPulling base start now place batches input_stop.Fault = FollowedAs (PulledEnded start now) base place batches
StopsPulling base start now place batches input_stop.TooLong = FollowedAs (PulledTooMuch start now) base place batches
StopsPulling base start now place batches input_stop.Memory = FollowedAs (PulledSome start now) base place batches

-- What a pull does after them: one line more, the end of the input, or none.
abbrev pub PullsOn : Option Base → SourceTold → SourceTold → FeedPull → Place → List Batch → Result Bool InputStop → Type 0
PullsOn base start now feed place batches (Ok true) = FollowedBefore base start now feed place batches
PullsOn base start now feed place batches (Ok false) = FollowedAs (IsPulledAll start now feed) base place batches
PullsOn base start now feed place batches (Err stop) = StopsPulling base start now place batches stop

-- The feed is not what it must be: at the line that was pulled last, or at the end of the input.
pub record StopsAtLine (base : Option Base) (start now : SourceTold) (feed : FeedPull) (place : Place) (batches : List Batch) (stop : FeedStop) : Type 0 where
  pub lines : List (List ℕ)
  pub pulled : Pulled start now feed.input lines
  pub is : followed base lines ≡ stopped place batches stop (length lines)

pub record StopsAtCut (base : Option Base) (start now : SourceTold) (place : Place) (batches : List Batch) (stop : FeedStop) : Type 0 where
  pub lines : List (List ℕ)
  pub pulled : PulledAll start now lines
  pub is : followed base lines ≡ standing place batches (length lines)
  pub cut : cut_at (length lines) place ≡ Some stop

-- why lines lead no further than to a place
abbrev pub StopsThere : Option Base → SourceTold → SourceTold → FeedPull → Place → List Batch → PartStop → Type 0
StopsThere base start now feed place batches (Feed stop) = StopsAtLine base start now feed place batches stop ⊎ StopsAtCut base start now place batches stop
StopsThere base start now feed place batches (Input stop) = StopsPulling base start now place batches stop

-- a place at which so many batches are applied, at which they lead no further
pub record StopsPart (base : Option Base) (start now : SourceTold) (feed : FeedPull) (batches : List Batch) (applied : ℕ) (stop : PartStop) : Type 0 where
  pub place : Place
  pub count : applied_at place ≡ applied
  pub there : StopsThere base start now feed place batches stop

-- What the judging of a line says that moves to a place and commits nothing, where it is accepted.
abbrev pub judged : {T : Type 0} → (T → Result Moved FeedStop) → Result T FeedStop → Result Moved FeedStop
judged accepted (Ok value) = accepted value
judged accepted (Err stop) = Err stop

-- what the objects of the outside tell
pub record AllTold : Type 0 where
  pub source : SourceTold
  pub sink : SinkTold
  pub keeper : KeeperTold

abbrev pub all_told : {S K Q : Type 0} → (S → SourceTold) → (K → SinkTold) → (Q → KeeperTold) → S → K → Q → AllTold
all_told source_tells sink_tells keeper_tells source sink keeper = record { source = source_tells source; sink = sink_tells sink; keeper = keeper_tells keeper }

-- what is seen from one time to another
abbrev pub sink_between : SinkTold → SinkTold → SinkSeen
sink_between start now = record { taken = start.taken; taken_after = now.taken; faults = start.faults; faults_after = now.faults }

abbrev pub keeper_between : KeeperTold → KeeperTold → KeeperSeen
keeper_between start now = record {
  told = record { content = start.content; journal = start.journal };
  told_after = record { content = now.content; journal = now.journal };
  faults = start.faults;
  faults_after = now.faults;
}

abbrev pub seen_between : AllTold → AllTold → SeenAll
seen_between start now = record {
  source = record { left = start.source.left; left_after = now.source.left; faults = start.source.faults; faults_after = now.source.faults };
  sink = sink_between start.sink now.sink;
  keeper = keeper_between start.keeper now.keeper;
}

-- a cube is that of the leader as it stands
pub record IsCubeAt (work : Work) (cube : CubeValue PolicyWord) : Type 0 where
  pub policy : cube.policy ≡ work.schema.policy
  pub schema : cube.schema ≡ schema_at work.schema work.state
  pub facts : cube.facts ≡ work.state.facts

-- what is applied, without a fault of the sink or of the keeper
pub record AppliesAll (start now : AllTold) (batches : List Batch) (applied : ℕ) : Type 0 where
  pub told : Applied batches applied (sink_between start.sink now.sink) (keeper_between start.keeper now.keeper)
  pub write : now.sink.faults ≡ start.sink.faults
  pub keep : now.keeper.faults ≡ start.keeper.faults
