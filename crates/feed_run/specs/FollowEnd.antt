-- How the run of a follower ends: which lines of the feed came, what of it is applied, and what is written of that.
use Rattle.std.specs.Prelude.{◌≡◌, ℕ, ◌+◌, ◌≤◌, Bool, true, false, List, [], ◌∷◌, ◌++◌, ◌⊎◌, length, map, Option, Some, None, Result, Ok, Err}
use Rattle.std.specs.List.{concat}
use Rattle.std.specs.Io.KnownBytes.{Appends, Consumes, IsAtEnd}
use Rattle.fact_keeper.specs.declared.content.Batch.{Batch}
use Rattle.text_lines.specs.Text.{lines_of}
use Rattle.text_lines.specs.Input.{INPUT_LIMIT}
use Rattle.text_lines.specs.Pieces.{ended_lines, front}
use Rattle.script_run.specs.declared.break_off.BreakOff.{BreakOff}
use Rattle.script_run.specs.declared.break_off.BreakOff.TheVariants.{Write, SinkMemory, Memory, Keep}
use Rattle.script_run.specs.declared.streaming.StreamStop.TheVariants.{Broke, Read, TooLong}
use Rattle.script_run.specs.Kept.{Commits}
use Rattle.script_run.specs.Seen.{KeepFailed, KeeperSeen, NoKeepFault, NoReadFault, NoWriteFault, ReadFailed, SeenAll, SinkSeen, WriteFailed, Wrote}
use Rattle.script_run.specs.Stream.{is_keep_stop}
use Rattle.script_run.specs.Written.{Broken}
use Rattle.feed_run.specs.declared.feed_stop.FeedStop.{FeedStop}
use Rattle.feed_run.specs.declared.follow.FollowStop.{FollowStop}
use Rattle.feed_run.specs.declared.follow.FollowStop.TheVariants.{Feed, Stream}
use Rattle.feed_run.specs.Following.{Base, applied_at, applied_texts, followed, parts_at, refusal_of}
use Rattle.feed_run.specs.Pulling.{AreFirst, IsNearLine}

-- these batches are committed, and the lines of so many are written
pub record Applied (batches : List Batch) (applied : ℕ) (sink : SinkSeen) (keeper : KeeperSeen) : Type 0 where
  pub kept : Commits batches keeper.told keeper.told_after
  pub written : Appends sink.taken sink.taken_after (concat (applied_texts applied))

-- what lines commit is committed, and the line of each of their batches is written
abbrev pub AppliedBy : Option Base → List (List ℕ) → SinkSeen → KeeperSeen → Type 0
AppliedBy base lines sink keeper = Applied (followed base lines).batches (applied_at (followed base lines).place) sink keeper

-- The whole input came, and nothing of it is refused.
pub record FollowedAll (base : Option Base) (seen : SeenAll) : Type 0 where
  pub taken : List ℕ
  pub bytes : Consumes seen.source.left seen.source.left_after taken
  pub few : length taken ≤ INPUT_LIMIT
  pub end : IsAtEnd seen.source.left_after
  pub accepted : refusal_of base (map front (lines_of taken)) ≡ None
  pub applied : AppliedBy base (map front (lines_of taken)) seen.sink seen.keeper
  pub write : NoWriteFault seen.sink

-- the last of these lines stops so, and none before it, and it ends in the last piece that was taken
pub record StopsAtLast (base : Option Base) (taken : List ℕ) (lines : List (List ℕ)) (stop : FeedStop) : Type 0 where
  pub stops : (followed base lines).stop ≡ Some stop
  pub count : (followed base lines).lines ≡ length lines
  pub near : IsNearLine taken (length lines)

-- they are the whole input, which is refused so where it ends, and by none of its lines
pub record StopsAtEnd (base : Option Base) (taken : List ℕ) (left_after : Option (List ℕ)) (lines : List (List ℕ)) (stop : FeedStop) : Type 0 where
  pub end : IsAtEnd left_after
  pub all : lines ≡ map front (lines_of taken)
  pub goes_on : (followed base lines).stop ≡ None
  pub refused : refusal_of base lines ≡ Some stop

-- The feed is not what it must be, at the last of these lines or after them all.
pub record FollowRefused (base : Option Base) (seen : SeenAll) (stop : FeedStop) : Type 0 where
  pub taken : List ℕ
  pub bytes : Consumes seen.source.left seen.source.left_after taken
  pub few : length taken ≤ INPUT_LIMIT
  pub lines : List (List ℕ)
  pub came : AreFirst taken seen.source.left_after lines
  pub why : StopsAtLast base taken lines stop ⊎ StopsAtEnd base taken seen.source.left_after lines stop
  pub applied : AppliedBy base lines seen.sink seen.keeper
  pub write : NoWriteFault seen.sink

-- The lines that end in what was taken are followed, and so many batches applied.
pub record FollowedTaken (base : Option Base) (taken : List ℕ) (seen : SeenAll) (done : ℕ) : Type 0 where
  pub goes_on : (followed base (map front (ended_lines taken))).stop ≡ None
  pub count : done ≡ applied_at (followed base (map front (ended_lines taken))).place
  pub applied : AppliedBy base (map front (ended_lines taken)) seen.sink seen.keeper
  pub write : NoWriteFault seen.sink

-- A read failed after them.
pub record FollowFailed (base : Option Base) (seen : SeenAll) (done : ℕ) : Type 0 where
  pub taken : List ℕ
  pub bytes : Consumes seen.source.left seen.source.left_after taken
  pub few : length taken ≤ INPUT_LIMIT
  pub followed : FollowedTaken base taken seen done

-- The byte came that is one too many.
pub record FollowedTooMuch (base : Option Base) (seen : SeenAll) (done : ℕ) : Type 0 where
  pub taken : List ℕ
  pub byte : ℕ
  pub bytes : Consumes seen.source.left seen.source.left_after (taken ++ byte ∷ [])
  pub all : length taken ≡ INPUT_LIMIT
  pub followed : FollowedTaken base taken seen done

-- After these lines the batch of a number is committed, and the line that says so is not whole. They end in the last
-- piece.
pub record CutAtBatch (base : Option Base) (taken : List ℕ) (lines : List (List ℕ)) (seen : SeenAll) (number : ℕ) : Type 0 where
  pub parts : parts_at (followed base lines).place ≡ number + 1
  pub wrote : Wrote seen.sink.taken seen.sink.taken_after (Broken (applied_texts number) (number + 1))
  pub kept : Commits (followed base lines).batches seen.keeper.told seen.keeper.told_after
  pub near : IsNearLine taken (length lines)

-- After these lines so many batches are applied, and no fault of the sink was met.
pub record StoppedBehind (base : Option Base) (lines : List (List ℕ)) (seen : SeenAll) (done : ℕ) : Type 0 where
  pub count : done ≡ applied_at (followed base lines).place
  pub applied : AppliedBy base lines seen.sink seen.keeper
  pub write : NoWriteFault seen.sink

-- The keeper failed at the line after these, which does one part more and commits its batch: that of the base, or the
-- next. It ends in the last piece.
pub record FailedToKeep (base : Option Base) (taken : List ℕ) (left_after : Option (List ℕ)) (lines : List (List ℕ)) : Type 0 where
  pub line : List ℕ
  pub came : AreFirst taken left_after (lines ++ line ∷ [])
  pub near : IsNearLine taken (length lines + 1)
  pub goes_on : (followed base (lines ++ line ∷ [])).stop ≡ None
  pub part : parts_at (followed base (lines ++ line ∷ [])).place ≡ parts_at (followed base lines).place + 1
  pub batch : length (followed base (lines ++ line ∷ [])).batches ≡ length (followed base lines).batches + 1

-- how it breaks off after some lines
abbrev pub BreaksBehind : Option Base → List ℕ → List (List ℕ) → SeenAll → BreakOff → Type 0
BreaksBehind base taken lines seen (Write number) = WriteFailed seen.sink × CutAtBatch base taken lines seen number
BreaksBehind base taken lines seen (SinkMemory number) = NoWriteFault seen.sink × CutAtBatch base taken lines seen number
BreaksBehind base taken lines seen (Memory done) = StoppedBehind base lines seen done
BreaksBehind base taken lines seen (Keep done) = StoppedBehind base lines seen done × FailedToKeep base taken seen.source.left_after lines

pub record FollowBroke (base : Option Base) (seen : SeenAll) (off : BreakOff) : Type 0 where
  pub taken : List ℕ
  pub bytes : Consumes seen.source.left seen.source.left_after taken
  pub few : length taken ≤ INPUT_LIMIT
  pub lines : List (List ℕ)
  pub came : AreFirst taken seen.source.left_after lines
  pub goes_on : (followed base lines).stop ≡ None
  pub broke : BreaksBehind base taken lines seen off

-- where it ended
abbrev pub FollowsTo : {T : Type 0} → Option Base → SeenAll → Result T FollowStop → Type 0
FollowsTo base seen (Ok _) = NoReadFault seen.source × FollowedAll base seen
FollowsTo base seen (Err (Feed stop)) = NoReadFault seen.source × FollowRefused base seen stop
FollowsTo base seen (Err (Stream (Broke off))) = NoReadFault seen.source × FollowBroke base seen off
FollowsTo base seen (Err (Stream (Read done))) = ReadFailed seen.source × FollowFailed base seen done
FollowsTo base seen (Err (Stream (TooLong done))) = NoReadFault seen.source × FollowedTooMuch base seen done

-- the keeper made it stop
abbrev pub is_keep_end : {T : Type 0} → Result T FollowStop → Bool
is_keep_end (Ok _) = false
is_keep_end (Err (Feed stop)) = false
is_keep_end (Err (Stream stop)) = is_keep_stop stop

-- What a follower says of an input of which nothing was taken, over this base. The keeper had a fault where it made the follower stop, and
-- no other.
pub record EndsFollow {T : Type 0} (base : Option Base) (seen : SeenAll) (result : Result T FollowStop) : Type 0 where
  pub follows : FollowsTo base seen result
  pub keep_failed : is_keep_end result ≡ true → KeepFailed seen.keeper
  pub keep : is_keep_end result ≡ false → NoKeepFault seen.keeper
