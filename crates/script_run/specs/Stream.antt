-- A script that comes in pieces: what is done of it, and what was taken of its input.
use Rattle.std.specs.Prelude.{◌≡◌, ℕ, ◌+◌, ◌<◌, ◌≤◌, Bool, true, false, List, ◌++◌, ◌⊎◌, [], ◌∷◌, length, ⊤, IfErr, OnOk, Option, Result, Ok, Err}
use Rattle.std.specs.Io.KnownBytes.{Consumes, IsAtEnd}
use Rattle.cube_model.specs.declared.statistic.CellStat.{CellStat}
use Rattle.fact_keeper.specs.declared.content.Batch.{Batch}
use Rattle.schema_text.specs.Schema.{SchemaValue}
use Rattle.text_lines.specs.Text.{lines_of}
use Rattle.text_lines.specs.declared.input.InputStop.{InputStop}
use Rattle.text_lines.specs.declared.input.InputStop.TheVariants as input_stop
use Rattle.text_lines.specs.Input.{EndsOnce}
use Rattle.text_lines.specs.Pieces.{ended_lines, lf_count}
use Rattle.text_lines.specs.Reading.{PIECE_LIMIT}
use Rattle.script_run.specs.declared.break_off.BreakOff.{BreakOff}
use Rattle.script_run.specs.declared.break_off.BreakOff.TheVariants.{Write, SinkMemory, Memory, Keep}
use Rattle.script_run.specs.declared.streaming.StreamStop.{StreamStop}
use Rattle.script_run.specs.declared.streaming.StreamStop.TheVariants.{Broke, Read, TooLong}
use Rattle.script_run.specs.Kept.{Commits, HasKept, IsBehind, KeptAt, batches, is_keep}
use Rattle.script_run.specs.Progress.{BreaksOff, Done, HasDone, Working}
use Rattle.script_run.specs.Run.{Outcome, State, run}
use Rattle.script_run.specs.Seen.{KeepFailed, KeeperSeen, NoKeepFault, NoReadFault, NoWriteFault, ReadFailed, SeenAll, SinkSeen, Told, seen_since}
use Rattle.script_run.specs.Written.{Answered}

-- What a call does that does these lines after those that are done: the cube at work, the sink and the keeper before it
-- and after it.
pub record DoesLines {P T : Type 0} (weigh : P → CellStat → ℕ) (more : List (List ℕ)) (old new : Working P) (sink : SinkSeen) (keeper : KeeperSeen) (result : Result T BreakOff) : Type 0 where
  pub policy : new.cube.policy ≡ old.cube.policy
  pub keeps : new.keeps ≡ old.keeps
  pub done : (schema : SchemaValue) (first : State) (lines : List (List ℕ)) (start : Option (List ℕ)) → HasDone (weigh old.cube.policy) schema first lines start sink.taken old
      → OnOk result (HasDone (weigh old.cube.policy) schema first (lines ++ more) start sink.taken_after new)
  pub broken : (schema : SchemaValue) (first : State) (lines : List (List ℕ)) (start : Option (List ℕ)) → HasDone (weigh old.cube.policy) schema first lines start sink.taken old
      → IfErr result (BreaksOff (run (weigh old.cube.policy) schema first (lines ++ more)).replies (seen_since sink start))
  pub kept : (schema : SchemaValue) (first : State) (lines : List (List ℕ)) (start : Option (List ℕ)) (before : Told) → old.keeps ≡ true → HasDone (weigh old.cube.policy) schema first lines start sink.taken old
      → HasKept (weigh old.cube.policy) schema first lines before keeper.told old.gathered → OnOk result (HasKept (weigh old.cube.policy) schema first (lines ++ more) before keeper.told_after new.gathered)
  pub stopped : (schema : SchemaValue) (first : State) (lines : List (List ℕ)) (start : Option (List ℕ)) (before : Told) → old.keeps ≡ true → HasDone (weigh old.cube.policy) schema first lines start sink.taken old
      → HasKept (weigh old.cube.policy) schema first lines before keeper.told old.gathered → IfErr result (KeptAt (weigh old.cube.policy) schema first (lines ++ more) before keeper.told_after)
  pub count : OnOk result (new.done ≡ old.done + length more)
  pub ahead : OnOk result (old.done + length new.gathered ≤ new.done + length old.gathered)
  pub behind : IfErr result (IsBehind old.done (length old.gathered))
  pub write : OnOk result (NoWriteFault sink)
  pub keep : OnOk result (NoKeepFault keeper)
  pub cause : IfErr result (λ off. is_keep off ≡ true → KeepFailed keeper)
  pub other_cause : old.keeps ≡ true → IfErr result (λ off. is_keep off ≡ false → NoKeepFault keeper)

-- On what a script is done: how cells weigh, the schema, the state at the start, and whether the keeper keeps.
pub record Ground : Type 0 where
  pub weigh : CellStat → ℕ
  pub schema : SchemaValue
  pub first : State
  pub keeps : Bool

-- what lines do on it, and what they commit
abbrev pub outcome_on : Ground → List (List ℕ) → Outcome
outcome_on ground lines = run ground.weigh ground.schema ground.first lines

abbrev pub batches_on : Ground → List (List ℕ) → List Batch
batches_on ground lines = batches ground.weigh ground.schema ground.first lines

-- What these lines commit was committed, where the keeper keeps.
pub record CommitsOn (ground : Ground) (lines : List (List ℕ)) (keeper : KeeperSeen) : Type 0 where
  pub commits : ground.keeps ≡ true → Commits (batches_on ground lines) keeper.told keeper.told_after

-- All lines of a text, and of what was taken after it to the end of the input, are done and answered.
pub record StreamedAll (ground : Ground) (text : List ℕ) (room : ℕ) (seen : SeenAll) (refused : ℕ) : Type 0 where
  pub taken : List ℕ
  pub bytes : Consumes seen.source.left seen.source.left_after taken
  pub few : length taken ≤ room
  pub end : IsAtEnd seen.source.left_after
  pub done : Done (outcome_on ground (lines_of (text ++ taken))) seen.sink refused
  pub kept : CommitsOn ground (lines_of (text ++ taken)) seen.keeper

-- the n-th line ends in the last piece that was taken, or after it
pub record EndsInLast (text taken : List ℕ) (n : ℕ) : Type 0 where
  pub before : List ℕ
  pub last : List ℕ
  pub split : taken ≡ before ++ last
  pub piece : length last ≤ PIECE_LIMIT
  pub behind : lf_count (text ++ before) < n

-- no piece was taken after that in which the line ends at which a write or the keeper failed
abbrev pub IsNear : List ℕ → List ℕ → BreakOff → Type 0
IsNear text taken (Write line) = (taken ≡ []) ⊎ EndsInLast text taken line
IsNear text taken (SinkMemory line) = ⊤
IsNear text taken (Memory done) = ⊤
IsNear text taken (Keep done) = (taken ≡ []) ⊎ EndsInLast text taken (done + 1)

-- It broke off among some lines: those that end in the text and what was taken after it, or all where that is the whole
-- input.
pub record StreamBroke (ground : Ground) (text : List ℕ) (room : ℕ) (seen : SeenAll) (off : BreakOff) : Type 0 where
  pub taken : List ℕ
  pub bytes : Consumes seen.source.left seen.source.left_after taken
  pub few : length taken ≤ room
  pub lines : List (List ℕ)
  pub lines_are : (lines ≡ ended_lines (text ++ taken)) ⊎ (IsAtEnd seen.source.left_after × (lines ≡ lines_of (text ++ taken)))
  pub broke : BreaksOff (outcome_on ground lines).replies seen.sink off
  pub near : IsNear text taken off
  pub kept : ground.keeps ≡ true → KeptAt ground.weigh ground.schema ground.first lines seen.keeper.told seen.keeper.told_after off

-- The lines that end in a text and in what was taken after it are done and answered, so many.
pub record AnsweredTaken (ground : Ground) (text taken : List ℕ) (seen : SeenAll) (done : ℕ) : Type 0 where
  pub count : done ≡ lf_count (text ++ taken)
  pub write : NoWriteFault seen.sink
  pub answered : Answered (outcome_on ground (lines_of (text ++ taken))).replies done seen.sink
  pub kept : CommitsOn ground (ended_lines (text ++ taken)) seen.keeper

-- A read failed after them.
pub record StreamFailed (ground : Ground) (text : List ℕ) (room : ℕ) (seen : SeenAll) (done : ℕ) : Type 0 where
  pub taken : List ℕ
  pub bytes : Consumes seen.source.left seen.source.left_after taken
  pub few : length taken ≤ room
  pub answered : AnsweredTaken ground text taken seen done

-- The byte came that is one too many.
pub record StreamedTooMuch (ground : Ground) (text : List ℕ) (room : ℕ) (seen : SeenAll) (done : ℕ) : Type 0 where
  pub taken : List ℕ
  pub byte : ℕ
  pub bytes : Consumes seen.source.left seen.source.left_after (taken ++ byte ∷ [])
  pub all : length taken ≡ room
  pub answered : AnsweredTaken ground text taken seen done

-- at most one read gives no byte, and none does of an input that had ended
abbrev pub EndsFrom : Bool → ℕ → ℕ → Type 0
EndsFrom true before after = after ≡ before
EndsFrom false before after = EndsOnce before after

-- why it stops where no piece came, and so many lines are done
abbrev pub stop_of : InputStop → ℕ → StreamStop
stop_of input_stop.Fault done = Read done
stop_of input_stop.TooLong done = TooLong done
stop_of input_stop.Memory done = Broke (Memory done)

-- What the run of a script says that comes in pieces, of which this text is held and so many bytes may still be taken.
abbrev pub EndsStream : Ground → List ℕ → ℕ → SeenAll → Result ℕ StreamStop → Type 0
EndsStream ground text room seen (Ok refused) = NoReadFault seen.source × StreamedAll ground text room seen refused
EndsStream ground text room seen (Err (Broke off)) = NoReadFault seen.source × StreamBroke ground text room seen off
EndsStream ground text room seen (Err (Read done)) = ReadFailed seen.source × StreamFailed ground text room seen done
EndsStream ground text room seen (Err (TooLong done)) = NoReadFault seen.source × StreamedTooMuch ground text room seen done

-- the keeper failed, and made the run stop
abbrev pub is_keep_stop : StreamStop → Bool
is_keep_stop (Broke off) = is_keep off
is_keep_stop (Read done) = false
is_keep_stop (TooLong done) = false

-- the keeper's count of faults rose where it made the run stop, and stands otherwise
abbrev pub CountsStream : KeeperSeen → Result ℕ StreamStop → Type 0
CountsStream keeper (Ok refused) = NoKeepFault keeper
CountsStream keeper (Err stop) = (is_keep_stop stop ≡ true → KeepFailed keeper) × (is_keep_stop stop ≡ false → NoKeepFault keeper)
