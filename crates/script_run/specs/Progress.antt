-- Where a run stands between two lines, and how it may break off.
use Rattle.std.specs.Prelude.{◌≡◌, ℕ, ◌<◌, Bool, List, ◌++◌, length, Option, Err}
use Rattle.std.specs.List.{concat}
use Rattle.std.specs.Io.KnownBytes.{Appends}
use Rattle.cube_base.specs.Outside.{CountsSinkFault}
use Rattle.cube_base.specs.declared.fault.SinkError.{SinkError}
use Rattle.cube_base.specs.declared.fault.SinkError.TheVariants as sink_error
use Rattle.cube_core.specs.Cube.{CubeValue}
use Rattle.cube_model.specs.declared.statistic.CellStat.{CellStat}
use Rattle.schema_text.specs.Schema.{SchemaValue}
use Rattle.script_run.specs.Run.{Outcome, State, run, schema_at}
use Rattle.script_run.specs.Written.{Answered, Broken, Gathered}
use Rattle.script_run.specs.Seen.{NoWriteFault, SinkSeen, WriteFailed, Wrote}
use Rattle.script_run.specs.declared.break_off.BreakOff.{BreakOff}
use Rattle.script_run.specs.declared.break_off.BreakOff.TheVariants.{Write, SinkMemory, Memory, Keep}

-- how many bytes of replies are gathered before they are written: 32 KiB
abbrev pub MARK_BYTES : ℕ
MARK_BYTES = 32768

-- how many lines' replies are gathered before they are written, however short they are
abbrev pub MARK_LINES : ℕ
MARK_LINES = 4096

-- the gathered replies are too few for a write
pub record AreFewReplies (gathered : List (List ℕ)) : Type 0 where
  pub bytes : length (concat gathered) < MARK_BYTES
  pub lines : length gathered < MARK_LINES

-- of these replies the sink, which had `start` before, has taken the first whole, and the others are gathered
pub record HasGathered (replies : List (List ℕ)) (start taken : Option (List ℕ)) (gathered : List (List ℕ)) : Type 0 where
  pub sent : List (List ℕ)
  pub all : replies ≡ sent ++ gathered
  pub bytes : Appends start taken (concat sent)

-- what a cube at work is: the cube, whether replies are written before each edit and each growth, those that are gathered, and how many
-- lines are answered and refused
pub record Working (P : Type 0) : Type 0 where
  pub cube : CubeValue P
  pub keeps : Bool
  pub gathered : List (List ℕ)
  pub done : ℕ
  pub refused : ℕ

-- these lines are done from a first state on, and their replies are gathered or taken
pub record HasDone {P : Type 0} (weigh : CellStat → ℕ) (schema : SchemaValue) (first : State) (lines : List (List ℕ)) (start taken : Option (List ℕ)) (working : Working P) : Type 0 where
  pub schema_now : working.cube.schema ≡ schema_at schema (run weigh schema first lines).state
  pub facts : working.cube.facts ≡ (run weigh schema first lines).state.facts
  pub done : working.done ≡ length lines
  pub refused : working.refused ≡ (run weigh schema first lines).refused
  pub gathered : HasGathered (run weigh schema first lines).replies start taken working.gathered

-- the count of faults where a sink took a part of a text
abbrev pub CountsCut : SinkSeen → SinkError → Type 0
CountsCut sink error = CountsSinkFault {T = ℕ} sink.faults sink.faults_after (Err error)

-- how a run breaks off whose sink took a part of the reply to a line
abbrev pub break_off_at : SinkError → ℕ → BreakOff
break_off_at sink_error.Failed line = Write line
break_off_at sink_error.Memory line = SinkMemory line

-- How a run breaks off among its lines: a write failed, or the sink was out of memory, within the reply to a line; the
-- run was out of memory when so many lines were done, and the gathered replies are written; or the keeper failed after
-- so many lines, whose replies are written.
abbrev pub BreaksOff : List (List ℕ) → SinkSeen → BreakOff → Type 0
BreaksOff replies sink (Write line) = WriteFailed sink × Wrote sink.taken sink.taken_after (Broken replies line)
BreaksOff replies sink (SinkMemory line) = NoWriteFault sink × Wrote sink.taken sink.taken_after (Broken replies line)
BreaksOff replies sink (Memory done) = NoWriteFault sink × Wrote sink.taken sink.taken_after (Gathered replies done)
BreaksOff replies sink (Keep done) = NoWriteFault sink × Answered replies done sink

-- the whole run was done and written
pub record Done (outcome : Outcome) (sink : SinkSeen) (refused : ℕ) : Type 0 where
  pub bytes : Appends sink.taken sink.taken_after (concat outcome.replies)
  pub count : refused ≡ outcome.refused
  pub no_fault : NoWriteFault sink
