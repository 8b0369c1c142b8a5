-- What each end of a run says of the words, of the input, of the store and of what was written.
use Rattle.std.specs.Prelude.{◌≡◌, ◌≢◌, ℕ, ◌+◌, ◌≤◌, Bool, true, false, List, [], ◌∷◌, ◌⊎◌, length, take, ⊤, Option, Some, None}
use Rattle.std.specs.List.{concat}
use Rattle.std.specs.Io.KnownBytes.{Appends}
use Rattle.cube_base.specs.Outside.{TakesPart}
use Rattle.fact_keeper.specs.Batch.{empty_content}
use Rattle.fact_keeper.specs.declared.content.Stored.{Stored}
use Rattle.text_lines.specs.Input.{INPUT_LIMIT, GoesOn, TakesAtMost}
use Rattle.text_lines.specs.Reading.{PIECE_LIMIT}
use Rattle.script_run.specs.Kept.{Commits}
use Rattle.script_run.specs.Seen.{KeepFailed, ReadFailed, SeenAll, SourceSeen, WriteFailed, Wrote, WroteNothing}
use Rattle.script_run.specs.Written.{Answered, Broken, Stopped}
use Rattle.cube_cli.specs.Command.{asked_line, command_of}
use Rattle.cube_cli.specs.declared.command.Command.{Command}
use Rattle.cube_cli.specs.declared.end.End.{End}
use Rattle.cube_cli.specs.declared.end.End.TheVariants.{Finished, Usage, Schema, NoCube, HasCube, BadStore, ReadFault, WriteFault, KeepFault, Memory, TooLong, BadRecord, ImportRows, BadFeed, Order, Base, Differs}
use Rattle.cube_cli.specs.Doing.{AsNeeded, AtOnce, ByLines, Doing, Fits, LineWork, OneWork, Works, doing_of, ends_of}
use Rattle.cube_cli.specs.Kinds.{EndKind, IsAmong}
use Rattle.cube_cli.specs.Seen.{DidNothing, Holds, IsUntouched, LeftAll, NoFault, OfContent, OfInput, OnlyKeepFailed, OnlyReadFailed, OnlyWriteFailed, ReadNothing, ReadWhole, Took}
use Rattle.cube_cli.specs.Store.{Finds}

-- which fault was met: the one that the end tells, and no other
abbrev pub Faults : SeenAll → End → Type 0
Faults seen (ReadFault done) = OnlyReadFailed seen
Faults seen (WriteFault done) = OnlyWriteFailed seen
Faults seen (KeepFault done) = OnlyKeepFailed seen
Faults seen end = NoFault seen

-- how many bytes of the source were taken: one more than 2^30 where the input is too long, else at most these
abbrev pub Takes : SourceSeen → End → Type 0
Takes source (TooLong done) = GoesOn INPUT_LIMIT source.left source.left_after
Takes source end = TakesAtMost INPUT_LIMIT source.left source.left_after

-- what was left as it was: all, or all but the input that is refused
abbrev pub Leaves : SeenAll → End → Type 0
Leaves seen Usage = LeftAll seen
Leaves seen NoCube = LeftAll seen
Leaves seen HasCube = LeftAll seen
Leaves seen (BadStore found) = LeftAll seen
Leaves seen (Schema line why) = DidNothing seen
Leaves seen (BadRecord bad) = DidNothing seen
Leaves seen (ImportRows would) = DidNothing seen
Leaves seen end = ⊤

-- nothing was read, written or kept, and no line done
pub record StoppedFirst (seen : SeenAll) (done : ℕ) : Type 0 where
  pub none : done ≡ 0
  pub left : LeftAll seen

-- nothing was written or kept, and no line done
pub record StoppedBefore (seen : SeenAll) (done : ℕ) : Type 0 where
  pub none : done ≡ 0
  pub nothing : DidNothing seen

-- What the number of an end says where the input is done at once, of which so many lines are refused and so many batches committed.
abbrev pub CountsAtOnce : ℕ → ℕ → SeenAll → End → Type 0
CountsAtOnce refused commits seen (Finished count) = count ≡ refused
CountsAtOnce refused commits seen (WriteFault done) = done ≡ commits
CountsAtOnce refused commits seen (ReadFault done) = StoppedBefore seen done
CountsAtOnce refused commits seen (TooLong done) = StoppedBefore seen done
CountsAtOnce refused commits seen (KeepFault done) = StoppedBefore seen done
CountsAtOnce refused commits seen (Memory done) = StoppedBefore seen done ⊎ (done ≡ commits)
CountsAtOnce refused commits seen end = ⊤

-- What it says where one batch at most is committed, as the content needs it.
abbrev pub CountsAsNeeded : SeenAll → End → Type 0
CountsAsNeeded seen (Finished count) = count ≡ 0
CountsAsNeeded seen (WriteFault done) = done ≤ 1
CountsAsNeeded seen (KeepFault done) = StoppedBefore seen done
CountsAsNeeded seen (Memory done) = StoppedBefore seen done ⊎ (done ≤ 1)
CountsAsNeeded seen end = ⊤

abbrev pub Counts : Works → SeenAll → End → Type 0
Counts (ByLines work) seen end = ⊤
Counts (AtOnce refused commits work) seen end = CountsAtOnce refused commits seen end
Counts (AsNeeded work) seen end = CountsAsNeeded seen end

-- What it says of a content that the store held: there was nothing in it, or something; what is found in it first; or it fits the command,
-- unless the run stopped before that is known.
abbrev pub FitsAt : (Stored → Type 0) → SeenAll → End → Stored → Type 0
FitsAt Fitting seen NoCube content = content ≡ empty_content
FitsAt Fitting seen HasCube content = content ≢ empty_content
FitsAt Fitting seen (BadStore found) content = (content ≢ empty_content) × Finds content found
FitsAt Fitting seen (KeepFault done) content = StoppedFirst seen done ⊎ Fitting content
FitsAt Fitting seen (Memory done) content = StoppedFirst seen done ⊎ Fitting content
FitsAt Fitting seen end content = Fitting content

-- Reading stopped after these bytes of an input. If its head is refused, that had not come whole; else the parts are
-- done and written that the lines make which had come whole, and what they commit is kept.
pub record StoppedReading (work : LineWork) (taken : List ℕ) (done : ℕ) (seen : SeenAll) : Type 0 where
  pub parts : ℕ
  pub parts_are : parts ≡ work.parts_at (work.lines_in taken)
  pub count : done ≡ work.told_as parts
  pub awaits : work.has_head taken ≡ true → work.refusal ≡ None
  pub answered : Answered work.texts parts seen.sink
  pub kept : Commits (work.kept parts) seen.keeper.told seen.keeper.told_after

-- The whole input, where one is taken, was read, and all its parts are done and written.
pub record DidLines (work : LineWork) (reads : Bool) (input : List ℕ) (refused : ℕ) (seen : SeenAll) : Type 0 where
  pub accepted : work.refusal ≡ None
  pub read : reads ≡ true → ReadWhole seen.source input
  pub count : refused ≡ work.refused
  pub wrote : Appends seen.sink.taken seen.sink.taken_after (concat work.texts)
  pub kept : Commits work.all_kept seen.keeper.told seen.keeper.told_after

-- A write failed within the texts of the first parts, the last of which is not whole. The line at which so many are done ends in the last
-- piece that was taken.
pub record BrokeOff (work : LineWork) (done : ℕ) (seen : SeenAll) : Type 0 where
  pub parts : ℕ
  pub line : ℕ
  pub parts_are : parts ≡ work.parts_at line
  pub count : done ≡ work.told_as parts
  pub wrote : Wrote seen.sink.taken seen.sink.taken_after (Broken work.texts parts)
  pub kept : Commits (work.kept parts) seen.keeper.told seen.keeper.told_after
  pub near : TakesAtMost (work.line_end line + PIECE_LIMIT) seen.source.left seen.source.left_after

-- The keeper failed after the first parts, whose texts are all written: the next one commits, which is done at this
-- line.
pub record StoppedAtEdit (work : LineWork) (done : ℕ) (seen : SeenAll) : Type 0 where
  pub parts : ℕ
  pub line : ℕ
  pub parts_are : parts + 1 ≡ work.parts_at line
  pub count : done ≡ work.told_as parts
  pub answered : Answered work.texts parts seen.sink
  pub kept : Commits (work.kept parts) seen.keeper.told seen.keeper.told_after
  pub next : length (work.kept (parts + 1)) ≡ length (work.kept parts) + 1
  pub near : TakesAtMost (work.line_end line + PIECE_LIMIT) seen.source.left seen.source.left_after

-- It ran out of memory within the texts of the first parts.
pub record WantedMemory (work : LineWork) (done : ℕ) (seen : SeenAll) : Type 0 where
  pub parts : ℕ
  pub count : done ≡ work.told_as parts
  pub wrote : Wrote seen.sink.taken seen.sink.taken_after (Stopped work.texts parts)
  pub kept : Commits (work.kept parts) seen.keeper.told seen.keeper.told_after

-- The head of the input is refused, and this end tells why. It ends in the last piece that was taken.
pub record RefusedHead (work : LineWork) (end : End) (seen : SeenAll) : Type 0 where
  pub cause : work.refusal ≡ Some end
  pub near : TakesAtMost (work.head + PIECE_LIMIT) seen.source.left seen.source.left_after

-- Of the input this end tells why no more of it is done: what is before that is done and written, and what it commits is kept. Its head is
-- all that was read to tell this, and ends in the last piece that was taken.
pub record RefusedWithin (work : LineWork) (end : End) (seen : SeenAll) : Type 0 where
  pub head : RefusedHead work end seen
  pub wrote : Appends seen.sink.taken seen.sink.taken_after (concat work.texts)
  pub kept : Commits work.all_kept seen.keeper.told seen.keeper.told_after

-- What each end says of an input that is done by its lines.
abbrev pub MeansByLines : LineWork → Bool → List ℕ → SeenAll → End → Type 0
MeansByLines work reads input seen (Finished refused) = DidLines work reads input refused seen
MeansByLines work reads input seen (ReadFault done) = Took seen.source (λ taken. StoppedReading work taken done seen)
MeansByLines work reads input seen (TooLong done) = StoppedReading work (take INPUT_LIMIT input) done seen
MeansByLines work reads input seen (WriteFault done) = BrokeOff work done seen
MeansByLines work reads input seen (KeepFault done) = StoppedFirst seen done ⊎ StoppedAtEdit work done seen
MeansByLines work reads input seen (Memory done) = StoppedFirst seen done ⊎ WantedMemory work done seen
MeansByLines work reads input seen (Schema line why) = RefusedHead work (Schema line why) seen
MeansByLines work reads input seen (BadRecord bad) = RefusedHead work (BadRecord bad) seen
MeansByLines work reads input seen (ImportRows would) = RefusedHead work (ImportRows would) seen
MeansByLines work reads input seen (BadFeed line why) = RefusedWithin work (BadFeed line why) seen
MeansByLines work reads input seen (Order want got) = RefusedWithin work (Order want got) seen
MeansByLines work reads input seen (Base place) = RefusedWithin work (Base place) seen
MeansByLines work reads input seen (Differs number line) = RefusedWithin work (Differs number line) seen
MeansByLines work reads input seen end = ⊤

-- The input, where one is taken, was read whole, and it has this refusal or none.
pub record Judged (work : OneWork) (reads : Bool) (input : List ℕ) (refusal : Option End) (seen : SeenAll) : Type 0 where
  pub is : work.refusal ≡ refusal
  pub read : reads ≡ true → ReadWhole seen.source input

-- It was accepted, and what is to be kept of it is kept.
pub record DidKeep (work : OneWork) (reads : Bool) (input : List ℕ) (seen : SeenAll) : Type 0 where
  pub judged : Judged work reads input None seen
  pub kept : Commits work.kept seen.keeper.told seen.keeper.told_after

-- the text is not whole
abbrev pub IsPartWritten : List ℕ → SeenAll → Type 0
IsPartWritten text seen = TakesPart seen.sink.taken seen.sink.taken_after text

-- What each end says of an input that is done at once.
abbrev pub MeansAtOnce : OneWork → Bool → ℕ → List ℕ → SeenAll → End → Type 0
MeansAtOnce work reads commits input seen (Finished refused) = DidKeep work reads input seen × Appends seen.sink.taken seen.sink.taken_after work.text
MeansAtOnce work reads commits input seen (WriteFault done) = DidKeep work reads input seen × IsPartWritten work.text seen
MeansAtOnce work reads commits input seen (KeepFault done) = StoppedFirst seen done ⊎ Judged work reads input None seen
MeansAtOnce work reads commits input seen (Memory done) = StoppedBefore seen done ⊎ ((done ≡ commits) × DidKeep work reads input seen × (WroteNothing seen.sink ⊎ IsPartWritten work.text seen))
MeansAtOnce work reads commits input seen (Schema line why) = Judged work reads input (Some (Schema line why)) seen
MeansAtOnce work reads commits input seen (BadRecord bad) = Judged work reads input (Some (BadRecord bad)) seen
MeansAtOnce work reads commits input seen (ImportRows would) = Judged work reads input (Some (ImportRows would)) seen
MeansAtOnce work reads commits input seen end = ⊤

-- the same of an input and a content which need so many batches as the work keeps
abbrev pub MeansAsNeeded : OneWork → Bool → List ℕ → SeenAll → End → Type 0
MeansAsNeeded work reads input seen end = CountsAtOnce 0 (length work.kept) seen end × MeansAtOnce work reads (length work.kept) input seen end

-- What it says of an input and a content.
abbrev pub Means : Works → Bool → List ℕ → Stored → SeenAll → End → Type 0
Means (ByLines work) reads input content seen end = MeansByLines (work input content) reads input seen end
Means (AtOnce refused commits work) reads input content seen end = MeansAtOnce (work input content) reads commits input seen end
Means (AsNeeded work) reads input content seen end = MeansAsNeeded (work input content) reads input seen end

-- What an end says of a run that may give these ends, does this, and goes on over what the store must hold.
pub record SaysBy (kinds : List EndKind) (doing : Doing) (Fitting : Stored → Type 0) (seen : SeenAll) (end : End) : Type 0 where
  pub may : IsAmong kinds end
  pub faults : Faults seen end
  pub takes : Takes seen.source end
  pub leaves : Leaves seen end
  pub unread : doing.reads ≡ false → ReadNothing seen.source
  pub unkept : doing.keeps ≡ false → IsUntouched seen.keeper
  pub counts : Counts doing.works seen end
  pub fits : Holds seen.keeper (FitsAt Fitting seen end)
  pub means : OfContent doing.over seen.keeper (λ content. OfInput doing.reads seen.source (λ input. Means doing.works doing.reads input content seen end))

-- what an end says of a run of a command, if one is named, whose words ask a line
abbrev pub SaysAsked : List ℕ → Option Command → SeenAll → End → Type 0
SaysAsked line command seen end = SaysBy (ends_of command) (doing_of line command) (Fits command) seen end

-- the same of one whose words ask none
abbrev pub SaysOf : Option Command → SeenAll → End → Type 0
SaysOf command seen end = SaysAsked [] command seen end

-- what the end of a run says, by the words of the command line
abbrev pub Says : List (List ℕ) → SeenAll → End → Type 0
Says words seen end = SaysAsked (asked_line words) (command_of words) seen end

-- what the words of the command line do
abbrev pub doing_by : List (List ℕ) → Doing
doing_by words = doing_of (asked_line words) (command_of words)

-- no fault was met of what a command calls
pub record NoneFailed (doing : Doing) (seen : SeenAll) : Type 0 where
  pub read : doing.reads ≡ true → ReadFailed seen.source → ⊥
  pub write : WriteFailed seen.sink → ⊥
  pub keep : doing.stores ≡ true → KeepFailed seen.keeper → ⊥

-- the run was done to its end, the words or the input are refused, or it ran out of memory
abbrev pub IsDone : End → Type 0
IsDone end = IsAmong (EndKind.Finished ∷ EndKind.Usage ∷ EndKind.Schema ∷ EndKind.BadRecord ∷ EndKind.ImportRows ∷ EndKind.BadFeed ∷ EndKind.Order ∷ EndKind.Base ∷ EndKind.Differs ∷ EndKind.Memory ∷ []) end

-- Where no fault comes, the store holds what the command must find, and the input is not too long, it is so. With what the end says an
-- input that is accepted is done to its end then, unless it runs out of memory.
abbrev pub IsCompleteOf : List ℕ → Option Command → SeenAll → End → Type 0
IsCompleteOf line command seen end = NoneFailed (doing_of line command) seen
    → OfContent (doing_of line command).stores seen.keeper (λ content. Fits command content → OfInput (doing_of line command).reads seen.source (λ input. length input ≤ INPUT_LIMIT → IsDone end))

abbrev pub IsComplete : List (List ℕ) → SeenAll → End → Type 0
IsComplete words seen end = IsCompleteOf (asked_line words) (command_of words) seen end
