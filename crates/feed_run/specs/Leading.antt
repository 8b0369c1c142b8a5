-- A leader: a script that is done over a store, and written as a feed.
use Rattle.std.specs.Prelude.{◌≡◌, ℕ, ◌+◌, ◌≤◌, List, [], ◌∷◌, ◌++◌, ◌⊎◌, length, Result, Ok, Err}
use Rattle.std.specs.List.{concat}
use Rattle.std.specs.Io.KnownBytes.{Appends, Consumes, IsAtEnd}
use Rattle.cube_base.specs.declared.code.Code.{Code}
use Rattle.cube_model.specs.declared.statistic.CellStat.{CellStat}
use Rattle.fact_keeper.specs.declared.content.Batch.{Batch}
use Rattle.text_lines.specs.Text.{lines_of}
use Rattle.text_lines.specs.Input.{INPUT_LIMIT}
use Rattle.text_lines.specs.Pieces.{ended_lines, lf_count}
use Rattle.schema_text.specs.Schema.{SchemaValue}
use Rattle.script_text.specs.declared.line.Line.{Line}
use Rattle.script_text.specs.ScriptLine.{line_of}
use Rattle.script_run.specs.declared.break_off.BreakOff.{BreakOff}
use Rattle.script_run.specs.declared.break_off.BreakOff.TheVariants.{Write, SinkMemory, Memory, Keep}
use Rattle.script_run.specs.declared.streaming.StreamStop.{StreamStop}
use Rattle.script_run.specs.declared.streaming.StreamStop.TheVariants.{Broke, Read, TooLong}
use Rattle.script_run.specs.Kept.{Commits, KeptAt, batches, batches_at, batches_from}
use Rattle.script_run.specs.Progress.{BreaksOff}
use Rattle.script_run.specs.Run.{Outcome, State, run, schema_at, step, step_from}
use Rattle.script_run.specs.Seen.{NoReadFault, NoWriteFault, ReadFailed, SeenAll}
use Rattle.script_run.specs.Stream.{CountsStream, IsNear}
use Rattle.script_run.specs.Written.{Answered}
use Rattle.row_feed.specs.FeedText.{base_lines, batch_lines, feed_bytes}

-- the text of what a line commits, over the schema after it and by its number: none where it commits nothing
abbrev pub batch_text : SchemaValue → ℕ → Line → List Batch → List ℕ
batch_text schema number said [] = []
batch_text schema number said (batch ∷ more) = feed_bytes (batch_lines schema number said batch)

-- that of a line that was read, which commits these batches
abbrev pub read_text : SchemaValue → ℕ → Result Line Code → List Batch → List ℕ
read_text schema number (Ok said) committed = batch_text schema number said committed
read_text schema number (Err refusal) committed = []

-- that of a line that was read and is done on a state, after so many batches
abbrev pub text_from : (CellStat → ℕ) → SchemaValue → State → ℕ → Result Line Code → List ℕ
text_from weigh schema state before read = read_text (schema_at schema (step_from weigh schema state read).state) (before + 1) read (batches_from weigh schema state read)

-- that of the bytes of a line, which are read over the dimensions of the state
unfoldable pub text_at : (CellStat → ℕ) → SchemaValue → State → ℕ → List ℕ → List ℕ
text_at weigh schema state before bytes = text_from weigh schema state before (line_of (schema_at schema state) bytes)

-- the texts of lines that are done one after the other from a first state on, after so many batches
abbrev pub feed_from : (CellStat → ℕ) → SchemaValue → State → ℕ → List (List ℕ) → List (List ℕ)
feed_from weigh schema state before [] = []
feed_from weigh schema state before (line ∷ lines) =
    text_at weigh schema state before line ∷ feed_from weigh schema (step weigh schema state line).state (before + length (batches_at weigh schema state line)) lines

-- the text of the base
abbrev pub base_text : SchemaValue → State → List ℕ
base_text schema state = feed_bytes (base_lines (schema_at schema state) state.facts)

-- The texts of a leader: the base, and then the text of each line, which may be empty.
abbrev pub leading_texts : (CellStat → ℕ) → SchemaValue → State → List (List ℕ) → List (List ℕ)
leading_texts weigh schema state lines = base_text schema state ∷ feed_from weigh schema state 0 lines

-- on what a leader's lines are done: how cells weigh, the schema, and the state at the start
pub record Leader : Type 0 where
  pub weigh : CellStat → ℕ
  pub schema : SchemaValue
  pub first : State

-- what lines do on it, what they commit, and the texts
abbrev pub leader_outcome : Leader → List (List ℕ) → Outcome
leader_outcome leader lines = run leader.weigh leader.schema leader.first lines

abbrev pub batches_by : Leader → List (List ℕ) → List Batch
batches_by leader lines = batches leader.weigh leader.schema leader.first lines

abbrev pub texts_of : Leader → List (List ℕ) → List (List ℕ)
texts_of leader lines = leading_texts leader.weigh leader.schema leader.first lines

-- How it breaks off, told in parts. The base is the first of them, and the text of a line stands one part after the
-- line.
abbrev pub in_parts : BreakOff → BreakOff
in_parts (Write line) = Write (line + 1)
in_parts (SinkMemory line) = SinkMemory (line + 1)
in_parts (Memory done) = Memory (done + 1)
in_parts (Keep done) = Keep (done + 1)

-- All lines of the whole input are done, and their texts written.
pub record LedAll (leader : Leader) (seen : SeenAll) (refused : ℕ) : Type 0 where
  pub taken : List ℕ
  pub bytes : Consumes seen.source.left seen.source.left_after taken
  pub few : length taken ≤ INPUT_LIMIT
  pub end : IsAtEnd seen.source.left_after
  pub count : refused ≡ (leader_outcome leader (lines_of taken)).refused
  pub wrote : Appends seen.sink.taken seen.sink.taken_after (concat (texts_of leader (lines_of taken)))
  pub write : NoWriteFault seen.sink
  pub kept : Commits (batches_by leader (lines_of taken)) seen.keeper.told seen.keeper.told_after

-- It broke off among some lines: those that end in what was taken, or all where that is the whole input.
pub record LeadBroke (leader : Leader) (seen : SeenAll) (off : BreakOff) : Type 0 where
  pub taken : List ℕ
  pub bytes : Consumes seen.source.left seen.source.left_after taken
  pub few : length taken ≤ INPUT_LIMIT
  pub lines : List (List ℕ)
  pub lines_are : (lines ≡ ended_lines taken) ⊎ (IsAtEnd seen.source.left_after × (lines ≡ lines_of taken))
  pub broke : BreaksOff (texts_of leader lines) seen.sink (in_parts off)
  pub near : IsNear [] taken off
  pub kept : KeptAt leader.weigh leader.schema leader.first lines seen.keeper.told seen.keeper.told_after off

-- The lines that end in what was taken are done, so many, and their texts written.
pub record LedTaken (leader : Leader) (taken : List ℕ) (seen : SeenAll) (done : ℕ) : Type 0 where
  pub count : done ≡ lf_count taken
  pub write : NoWriteFault seen.sink
  pub answered : Answered (texts_of leader (lines_of taken)) (done + 1) seen.sink
  pub kept : Commits (batches_by leader (ended_lines taken)) seen.keeper.told seen.keeper.told_after

-- A read failed after them.
pub record LeadFailed (leader : Leader) (seen : SeenAll) (done : ℕ) : Type 0 where
  pub taken : List ℕ
  pub bytes : Consumes seen.source.left seen.source.left_after taken
  pub few : length taken ≤ INPUT_LIMIT
  pub led : LedTaken leader taken seen done

-- The byte came that is one too many.
pub record LedTooMuch (leader : Leader) (seen : SeenAll) (done : ℕ) : Type 0 where
  pub taken : List ℕ
  pub byte : ℕ
  pub bytes : Consumes seen.source.left seen.source.left_after (taken ++ byte ∷ [])
  pub all : length taken ≡ INPUT_LIMIT
  pub led : LedTaken leader taken seen done

-- where it ended
abbrev pub LeadsTo : Leader → SeenAll → Result ℕ StreamStop → Type 0
LeadsTo leader seen (Ok refused) = NoReadFault seen.source × LedAll leader seen refused
LeadsTo leader seen (Err (Broke off)) = NoReadFault seen.source × LeadBroke leader seen off
LeadsTo leader seen (Err (Read done)) = ReadFailed seen.source × LeadFailed leader seen done
LeadsTo leader seen (Err (TooLong done)) = NoReadFault seen.source × LedTooMuch leader seen done

-- What a leader says of an input of which nothing was taken. The keeper had a fault where it made the leader stop, and no other.
pub record EndsLead (leader : Leader) (seen : SeenAll) (result : Result ℕ StreamStop) : Type 0 where
  pub leads : LeadsTo leader seen result
  pub keep : CountsStream seen.keeper result
