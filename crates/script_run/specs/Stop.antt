-- Which lines change a cube, and where the doing of a line stops.
use Rattle.std.specs.Prelude.{◌≡◌, ℕ, Bool, true, false, List, [], length, Option, Some, Result, Ok, Err}
use Rattle.cube_base.specs.declared.code.Code.{Code}
use Rattle.cube_base.specs.declared.code.Code.TheVariants as code
use Rattle.cube_base.specs.Outside.{Rose}
use Rattle.cube_core.specs.declared.fault.EditFault.{EditFault}
use Rattle.cube_core.specs.declared.fault.EditFault.TheVariants as edit_fault
use Rattle.fact_keeper.specs.declared.content.Batch.{Batch}
use Rattle.script_text.specs.declared.line.Line.{Line}
use Rattle.script_text.specs.declared.line.Line.TheVariants as line
use Rattle.script_text.specs.declared.reply.Reply.{Reply}
use Rattle.script_text.specs.declared.reply.Reply.TheVariants as reply
use Rattle.script_run.specs.declared.script.LineStop.{LineStop}
use Rattle.script_run.specs.declared.script.LineStop.TheVariants.{Memory, KeepFault}

-- whether a line edits the facts or the dimensions
abbrev pub edits : Line → Bool
edits line.Nothing = false
edits (line.Edit edit) = true
edits (line.Grow grow) = true
edits (line.Ask asked) = false

-- whether one that was read does; a line that is refused does not
abbrev pub is_edit : Result Line Code → Bool
is_edit (Ok said) = edits said
is_edit (Err refusal) = false

-- no reply is gathered where an edit or a growth is to be done
pub record IsReadyFor (gathered : List (List ℕ)) (read : Result Line Code) : Type 0 where
  pub none : is_edit read ≡ true → gathered ≡ []

-- Why a line that would commit these batches was not done: it ran out of memory, or the keeper had a fault, which it counts, at the batch.
abbrev pub IsStopOf : List Batch → ℕ → ℕ → LineStop → Type 0
IsStopOf committed before after Memory = after ≡ before
IsStopOf committed before after KeepFault = Rose before after × (length committed ≡ 1)

-- the reply to an edit or a growth that a cube refuses, where that has one
abbrev pub refusal_reply : EditFault → Result (Option Reply) LineStop
refusal_reply (edit_fault.Code refusal) = Ok (Some (reply.Refused refusal))
refusal_reply (edit_fault.Rows would) = Ok (Some (reply.Refused code.Rows))
refusal_reply edit_fault.KeepFault = Err KeepFault
refusal_reply edit_fault.Memory = Err Memory
