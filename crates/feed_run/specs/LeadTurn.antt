-- A leader at work: what the doing and telling of a line does, and where it breaks off.
use Rattle.std.specs.Prelude.{◌≡◌, ℕ, ◌+◌, ◌<◌, ◌≤◌, ◌^◌, List, [], ◌∷◌, ◌⊎◌, length, IfSome, Option, None, Result, Ok, Err}
use Rattle.std.specs.Io.KnownBytes.{Appends}
use Rattle.std.specs.Option.{option_to_list}
use Rattle.cube_base.specs.declared.code.Code.{Code}
use Rattle.cube_base.specs.Outside.{TakesPart}
use Rattle.cube_model.specs.declared.statistic.CellStat.{CellStat}
use Rattle.fact_keeper.specs.declared.content.Batch.{Batch}
use Rattle.schema_text.specs.Schema.{SchemaValue, weigh_of}
use Rattle.script_text.specs.declared.line.Line.{Line}
use Rattle.script_run.specs.declared.break_off.BreakOff.{BreakOff}
use Rattle.script_run.specs.declared.break_off.BreakOff.TheVariants.{Write, SinkMemory, Memory, Keep}
use Rattle.script_run.specs.Kept.{Commits, batches_at, batches_from}
use Rattle.script_run.specs.Run.{State, Step, cube_at, refusals_in, state_of, step, step_from}
use Rattle.script_run.specs.Seen.{KeepFailed, KeeperSeen, NoKeepFault, NoWriteFault, SinkSeen, WriteFailed}
use Rattle.row_feed.specs.FeedText.{AreRowsOf, IsSaid}
use Rattle.feed_run.specs.declared.lead.LeadRun.{LeadRun}
use Rattle.feed_run.specs.Leading.{read_text, text_at, text_from}

-- no line is done yet
pub record IsBegun (run : LeadRun) : Type 0 where
  pub told : run.told ≡ 0
  pub done : run.done ≡ 0
  pub refused : run.refused ≡ 0

-- so few lines are done that they can be counted on, and no more are told or refused
pub record IsFew (run : LeadRun) : Type 0 where
  pub done : run.done < 2 ^ 62
  pub told : run.told ≤ run.done
  pub refused : run.refused ≤ run.done

-- How cells weigh on the cube of a leader, and its state.
abbrev pub weigh_in : LeadRun → CellStat → ℕ
weigh_in run = weigh_of run.cube.policy

abbrev pub state_in : LeadRun → State
state_in run = state_of run.cube

-- the sink took nothing, and had no fault
pub record SentNothing (sink : SinkSeen) : Type 0 where
  pub taken : sink.taken_after ≡ sink.taken
  pub write : NoWriteFault sink

-- the sink took a part of a text
pub record SentPart (text : List ℕ) (sink : SinkSeen) (line at : ℕ) : Type 0 where
  pub here : line ≡ at
  pub part : TakesPart sink.taken sink.taken_after text

-- What the sending of a text at a line does: the sink took it, or a part of it; or nothing, where there was no memory for it.
abbrev pub SendsText : {T : Type 0} → List ℕ → ℕ → SinkSeen → Result T BreakOff → Type 0
SendsText text at sink (Ok _) = Appends sink.taken sink.taken_after text × NoWriteFault sink
SendsText text at sink (Err (Write line)) = SentPart text sink line at × WriteFailed sink
SendsText text at sink (Err (SinkMemory line)) = SentPart text sink line at × NoWriteFault sink
SendsText text at sink (Err (Memory done)) = (done ≡ at) × SentNothing sink
SendsText text at sink (Err (Keep done)) = ⊥

-- these batches were kept, or none
pub record KeptAll (committed : List Batch) (keeper : KeeperSeen) : Type 0 where
  pub commits : Commits committed keeper.told keeper.told_after
  pub keep : NoKeepFault keeper

pub record KeptNothing (keeper : KeeperSeen) : Type 0 where
  pub told : keeper.told_after ≡ keeper.told
  pub keep : NoKeepFault keeper

-- the keeper failed, and kept none
pub record KeptFailed (keeper : KeeperSeen) : Type 0 where
  pub told : keeper.told_after ≡ keeper.told
  pub failed : KeepFailed keeper

-- What the keeping of a batch after so many lines does.
abbrev pub KeepsBatch : {T : Type 0} → Batch → ℕ → KeeperSeen → Result T BreakOff → Type 0
KeepsBatch batch at keeper (Ok _) = KeptAll (batch ∷ []) keeper
KeepsBatch batch at keeper (Err (Write line)) = ⊥
KeepsBatch batch at keeper (Err (SinkMemory line)) = ⊥
KeepsBatch batch at keeper (Err (Memory done)) = (done ≡ at) × KeptNothing keeper
KeepsBatch batch at keeper (Err (Keep done)) = (done ≡ at) × KeptFailed keeper

-- It broke off at a line with this text, which commits these batches, after so many lines: where the text was written,
-- which is kept then; where it ran out of memory, before the line was kept or after that; or at the keeper.
abbrev pub BreaksAt : List ℕ → List Batch → ℕ → SinkSeen → KeeperSeen → BreakOff → Type 0
BreaksAt text committed before sink keeper (Write line) = SentPart text sink line (before + 1) × WriteFailed sink × KeptAll committed keeper
BreaksAt text committed before sink keeper (SinkMemory line) = SentPart text sink line (before + 1) × NoWriteFault sink × KeptAll committed keeper
BreaksAt text committed before sink keeper (Memory done) = SentNothing sink × (((done ≡ before) × KeptNothing keeper) ⊎ ((done ≡ before + 1) × KeptAll committed keeper))
BreaksAt text committed before sink keeper (Keep done) = (done ≡ before) × SentNothing sink × KeptFailed keeper × (length committed ≡ 1)

-- What a line has whose batch, if there is one, can be told over the schema after it.
abbrev pub IsTellable : SchemaValue → Result Line Code → Option Batch → Type 0
IsTellable schema (Ok said) found = IfSome found (λ batch. IsSaid schema said × AreRowsOf schema.dims batch.rows)
IsTellable schema (Err refusal) found = found ≡ None

-- What the keeping and telling of it does.
pub record KeepsAndTells (read : Result Line Code) (found : Option Batch) (old new : LeadRun) (sink : SinkSeen) (keeper : KeeperSeen) : Type 0 where
  pub run : new ≡ record old { told = old.told + length (option_to_list found) }
  pub wrote : Appends sink.taken sink.taken_after (read_text old.cube.schema (old.told + 1) read (option_to_list found))
  pub write : NoWriteFault sink
  pub kept : KeptAll (option_to_list found) keeper

abbrev pub TellsBatch : {T : Type 0} → Result Line Code → Option Batch → LeadRun → LeadRun → SinkSeen → KeeperSeen → Result T BreakOff → Type 0
TellsBatch read found old new sink keeper (Ok _) = KeepsAndTells read found old new sink keeper
TellsBatch read found old new sink keeper (Err off) = BreaksAt (read_text old.cube.schema (old.told + 1) read (option_to_list found)) (option_to_list found) old.done sink keeper off

-- A line is done on the cube, what it commits is kept, and its text written.
pub record Leads (now : Step) (committed : List Batch) (text : List ℕ) (old new : LeadRun) (sink : SinkSeen) (keeper : KeeperSeen) : Type 0 where
  pub cube : new.cube ≡ cube_at old.cube now.state
  pub told : new.told ≡ old.told + length committed
  pub done : new.done ≡ old.done + 1
  pub refused : new.refused ≡ old.refused + refusals_in now.reply
  pub wrote : Appends sink.taken sink.taken_after text
  pub write : NoWriteFault sink
  pub kept : KeptAll committed keeper

-- What a line that does this does, or where it broke off.
abbrev pub LeadsOn : {T : Type 0} → Step → List Batch → List ℕ → LeadRun → LeadRun → SinkSeen → KeeperSeen → Result T BreakOff → Type 0
LeadsOn now committed text old new sink keeper (Ok _) = Leads now committed text old new sink keeper
LeadsOn now committed text old new sink keeper (Err off) = BreaksAt text committed old.done sink keeper off

-- of a line that was read
abbrev pub LeadsRead : {T : Type 0} → Result Line Code → LeadRun → LeadRun → SinkSeen → KeeperSeen → Result T BreakOff → Type 0
LeadsRead read old new sink keeper result =
    LeadsOn (step_from (weigh_in old) old.cube.schema (state_in old) read) (batches_from (weigh_in old) old.cube.schema (state_in old) read) (text_from (weigh_in old) old.cube.schema (state_in old) old.told read) old new sink keeper result

-- of the bytes of a line
abbrev pub LeadsLine : {T : Type 0} → List ℕ → LeadRun → LeadRun → SinkSeen → KeeperSeen → Result T BreakOff → Type 0
LeadsLine line old new sink keeper result =
    LeadsOn (step (weigh_in old) old.cube.schema (state_in old) line) (batches_at (weigh_in old) old.cube.schema (state_in old) line) (text_at (weigh_in old) old.cube.schema (state_in old) old.told line) old new sink keeper result
