-- Where the run of a script that comes in pieces stands between two of them.
use Rattle.std.specs.Prelude.{◌≡◌, ℕ, ◌+◌, ◌≤◌, true, false, List, ◌++◌, ◌⊎◌, [], length, if◌then◌else◌, IfErr, IfOk, OnOk, Option, Result, Err}
use Rattle.std.specs.Io.KnownBytes.{Consumes, IsAtEnd}
use Rattle.cube_base.specs.Outside.{Rose, SinkTold, SourceTold}
use Rattle.fact_keeper.specs.Keeper.{KeeperTold}
use Rattle.cube_model.specs.declared.statistic.CellStat.{CellStat}
use Rattle.text_lines.specs.Pieces.{pieces_of, rest_of, whole_lines}
use Rattle.text_lines.specs.Reading.{Reading}
use Rattle.schema_text.specs.Schema.{SchemaValue}
use Rattle.script_run.specs.declared.break_off.BreakOff.{BreakOff}
use Rattle.script_run.specs.declared.streaming.StreamStop.{StreamStop}
use Rattle.script_run.specs.Kept.{Commits, HasKept, IsBehind, KeptAt, batches, is_keep}
use Rattle.script_run.specs.Progress.{BreaksOff, Done, HasDone, Working}
use Rattle.script_run.specs.Run.{State, run}
use Rattle.script_run.specs.Seen.{KeepFailed, KeeperSeen, NoKeepFault, SeenAll, SinkSeen, Told, seen_since, told_of}
use Rattle.script_run.specs.Stream.{EndsInLast, EndsStream, Ground, is_keep_stop}

-- what the source, the sink and the keeper tell at one time
pub record Outside : Type 0 where
  pub left : Option (List ℕ)
  pub read_faults : ℕ
  pub taken : Option (List ℕ)
  pub write_faults : ℕ
  pub told : Told
  pub keep_faults : ℕ

-- what is seen from one time to another
abbrev pub seen_from : Outside → Outside → SeenAll
seen_from start now = record {
  source = record { left = start.left; left_after = now.left; faults = start.read_faults; faults_after = now.read_faults };
  sink = record { taken = start.taken; taken_after = now.taken; faults = start.write_faults; faults_after = now.write_faults };
  keeper = record { told = start.told; told_after = now.told; faults = start.keep_faults; faults_after = now.keep_faults };
}

-- Some bytes were taken after a text, and so many may still be. These lines are done, and after them the cutter holds
-- those that end in what was taken, and the rest. No reply is gathered, and none of the outside had a fault that
-- stopped the run.
pub record Streaming {P : Type 0} (weigh : P → CellStat → ℕ) (ground : Ground) (text : List ℕ) (room : ℕ) (start now : Outside) (reading : Reading) (held : List (List ℕ)) (working : Working P) : Type 0 where
  pub weighs : ground.weigh ≡ weigh working.cube.policy
  pub keeps : ground.keeps ≡ working.keeps
  pub taken : List ℕ
  pub bytes : Consumes start.left now.left taken
  pub room_left : reading.room + length taken ≡ room
  pub end : reading.is_ended ≡ true → IsAtEnd now.left
  pub lines : List (List ℕ)
  pub whole : lines ++ whole_lines held ≡ whole_lines (pieces_of (text ++ taken))
  pub rest : rest_of held ≡ rest_of (pieces_of (text ++ taken))
  pub near : (taken ≡ []) ⊎ EndsInLast text taken (working.done + 1)
  pub done : HasDone ground.weigh ground.schema ground.first lines start.taken now.taken working
  pub kept : ground.keeps ≡ true → HasKept ground.weigh ground.schema ground.first lines start.told now.told working.gathered
  pub sent : working.gathered ≡ []
  pub no_read_fault : now.read_faults ≡ start.read_faults
  pub no_write_fault : now.write_faults ≡ start.write_faults

-- what they tell of their objects
abbrev pub outside_of : {S K Q : Type 0} → (S → SourceTold) → (K → SinkTold) → (Q → KeeperTold) → S → K → Q → Outside
outside_of source_tells sink_tells keeper_tells source sink keeper = record {
  left = (source_tells source).left;
  read_faults = (source_tells source).faults;
  taken = (sink_tells sink).taken;
  write_faults = (sink_tells sink).faults;
  told = told_of keeper_tells keeper;
  keep_faults = (keeper_tells keeper).faults;
}

-- at most so many pieces are still taken
abbrev pub turns_left : Reading → ℕ
turns_left reading = reading.room + (if reading.is_ended then 0 else 1)

-- What the doing of a piece does: the run stands at the next piece, or stopped. The lines that are done and held, and the bytes that may
-- still be taken, are no more together than they were.
pub record DoesPiece {P T : Type 0} (weigh : P → CellStat → ℕ) (before after : Outside) (reading reading_after : Reading) (held held_after : List (List ℕ)) (old new : Working P) (result : Result T StreamStop) : Type 0 where
  pub goes_on : (ground : Ground) (text : List ℕ) (room : ℕ) (start : Outside) → Streaming weigh ground text room start before reading held old → OnOk result (Streaming weigh ground text room start after reading_after held_after new)
  pub stops : (ground : Ground) (text : List ℕ) (room : ℕ) (start : Outside) → Streaming weigh ground text room start before reading held old → IfErr result (λ stop. EndsStream ground text room (seen_from start after) (Err stop))
  pub few : OnOk result (new.done + length (whole_lines held_after) + reading_after.room ≤ old.done + length (whole_lines held) + reading.room)
  pub shorter : OnOk result (turns_left reading_after ≤ reading.room)
  pub keeps : new.keeps ≡ old.keeps
  pub keep : OnOk result (after.keep_faults ≡ before.keep_faults)
  pub cause : IfErr result (λ stop. is_keep_stop stop ≡ true → Rose before.keep_faults after.keep_faults)
  pub other_cause : old.keeps ≡ true → IfErr result (λ stop. is_keep_stop stop ≡ false → after.keep_faults ≡ before.keep_faults)

-- What a call does that does these lines, the last of a script, after those that are done, and writes all replies: the
-- cube at work before it, and the sink and the keeper before it and after it.
pub record EndsLines {P : Type 0} (weigh : P → CellStat → ℕ) (more : List (List ℕ)) (old : Working P) (sink : SinkSeen) (keeper : KeeperSeen) (result : Result ℕ BreakOff) : Type 0 where
  pub done : (schema : SchemaValue) (first : State) (lines : List (List ℕ)) (start : Option (List ℕ)) → HasDone (weigh old.cube.policy) schema first lines start sink.taken old
      → IfOk result (Done (run (weigh old.cube.policy) schema first (lines ++ more)) (seen_since sink start))
  pub broken : (schema : SchemaValue) (first : State) (lines : List (List ℕ)) (start : Option (List ℕ)) → HasDone (weigh old.cube.policy) schema first lines start sink.taken old
      → IfErr result (BreaksOff (run (weigh old.cube.policy) schema first (lines ++ more)).replies (seen_since sink start))
  pub kept : (schema : SchemaValue) (first : State) (lines : List (List ℕ)) (start : Option (List ℕ)) (before : Told) → old.keeps ≡ true → HasDone (weigh old.cube.policy) schema first lines start sink.taken old
      → HasKept (weigh old.cube.policy) schema first lines before keeper.told old.gathered → OnOk result (Commits (batches (weigh old.cube.policy) schema first (lines ++ more)) before keeper.told_after)
  pub stopped : (schema : SchemaValue) (first : State) (lines : List (List ℕ)) (start : Option (List ℕ)) (before : Told) → old.keeps ≡ true → HasDone (weigh old.cube.policy) schema first lines start sink.taken old
      → HasKept (weigh old.cube.policy) schema first lines before keeper.told old.gathered → IfErr result (KeptAt (weigh old.cube.policy) schema first (lines ++ more) before keeper.told_after)
  pub behind : IfErr result (IsBehind old.done (length old.gathered))
  pub keep : OnOk result (NoKeepFault keeper)
  pub cause : IfErr result (λ off. is_keep off ≡ true → KeepFailed keeper)
  pub other_cause : old.keeps ≡ true → IfErr result (λ off. is_keep off ≡ false → NoKeepFault keeper)
