-- What a script does, line by line.
use Rattle.std.specs.Prelude.{◌≡◌, ℕ, ◌+◌, List, [], ◌∷◌, ◌++◌, length, Option, Some, None, Result, Ok, Err}
use Rattle.std.specs.Option.{option_map_or}
use Rattle.cube_base.specs.declared.code.Code.{Code}
use Rattle.cube_model.specs.declared.edit.Fact.{Fact}
use Rattle.cube_model.specs.declared.edit.Edit.{Edit}
use Rattle.cube_model.specs.declared.statistic.CellStat.{CellStat}
use Rattle.cube_model.specs.declared.tree.Grow.{Grow}
use Rattle.cube_model.specs.Difference.{refreshed}
use Rattle.cube_model.specs.Facts.{after}
use Rattle.cube_model.specs.Tree.{Dimension}
use Rattle.fact_records.specs.Judge.{judge}
use Rattle.schema_text.specs.Growth.{dims_with}
use Rattle.schema_text.specs.Schema.{SchemaValue, schema_policy, shape_of, weigh_of}
use Rattle.script_text.specs.declared.line.Line.{Line}
use Rattle.script_text.specs.declared.line.Line.TheVariants as line
use Rattle.script_text.specs.declared.reply.Reply.{Reply}
use Rattle.script_text.specs.declared.reply.Reply.TheVariants.{Done, Refused, Told}
use Rattle.script_text.specs.Reply.{reply_text}
use Rattle.script_text.specs.ScriptLine.{line_of}
use Rattle.cube_core.specs.Growth.{judge_growth, moved}
use Rattle.script_answers.specs.Answers.{reply_to}
pub use Rattle.script_answers.specs.Answers.{State, cube_at, rows_at, schema_at, state_of, terms_at}

-- what a line does: its reply, if it has one, and the state after it
pub record Step : Type 0 where
  pub reply : Option Reply
  pub state : State

-- a line that leaves the state
abbrev pub replied : State → Reply → Step
replied state answer = record { reply = Some answer; state = state }

-- an accepted edit answers how many facts it refreshes
abbrev pub accepted : (CellStat → ℕ) → SchemaValue → State → List Fact → Step
accepted weigh schema state later = record { reply = Some (Done (length (refreshed (schema_policy weigh schema) state.dims state.facts later))); state = record state { facts = later } }

-- an edit is done unless it is refused
abbrev pub edit_step : (CellStat → ℕ) → SchemaValue → State → Edit → Step
edit_step weigh schema state edit =
    option_map_or (λ refusal. replied state (Refused refusal)) (judge (schema_policy weigh schema) (shape_of schema) state.dims edit state.facts) (accepted weigh schema state (after edit state.facts))

-- A growth is done unless it is refused: it answers with the number of facts whose allocation changed. The facts stay.
abbrev pub growth_step : (CellStat → ℕ) → SchemaValue → State → Grow → Step
growth_step weigh schema state grow = record {
  reply = Some (Done (length (moved (schema_policy weigh schema) state.dims (dims_with grow state.dims) state.facts)));
  state = record state { dims = dims_with grow state.dims };
}

abbrev pub growth : (CellStat → ℕ) → SchemaValue → State → Grow → Step
growth weigh schema state grow =
    option_map_or (λ refusal. replied state (Refused refusal)) (judge_growth (schema_policy weigh schema) state.dims state.facts grow) (growth_step weigh schema state grow)

-- what a line that is read does: an edit or a growth is done, and what a question asks is answered
abbrev pub step_of : (CellStat → ℕ) → SchemaValue → State → Line → Step
step_of weigh schema state line.Nothing = record { reply = None; state = state }
step_of weigh schema state (line.Edit edit) = edit_step weigh schema state edit
step_of weigh schema state (line.Grow grow) = growth weigh schema state grow
step_of weigh schema state (line.Ask asked) = replied state (reply_to weigh schema state asked)

-- a line that is not read is refused
abbrev pub step_from : (CellStat → ℕ) → SchemaValue → State → Result Line Code → Step
step_from weigh schema state (Ok said) = step_of weigh schema state said
step_from weigh schema state (Err refusal) = replied state (Refused refusal)

-- what the bytes of a line do, which are read over the dimensions of the state
unfoldable pub step : (CellStat → ℕ) → SchemaValue → State → List ℕ → Step
step weigh schema state bytes = step_from weigh schema state (line_of (schema_at schema state) bytes)

-- the text of a reply, if there is one
abbrev pub text_of : List Dimension → Option Reply → List ℕ
text_of dims None = []
text_of dims (Some said) = reply_text dims said

-- how many refusals a reply is
abbrev pub refusals_in : Option Reply → ℕ
refusals_in None = 0
refusals_in (Some (Done _)) = 0
refusals_in (Some (Refused _)) = 1
refusals_in (Some (Told _ _)) = 0

-- What lines do: the text of the reply to each, which is empty where there is none, the state at the end, and the number of
-- refusals.
pub record Outcome : Type 0 where
  pub replies : List (List ℕ)
  pub state : State
  pub refused : ℕ

-- the lines done one after the other from a first state on
abbrev pub run : (CellStat → ℕ) → SchemaValue → State → List (List ℕ) → Outcome
run weigh schema state [] = record { replies = []; state = state; refused = 0 }
run weigh schema state (line ∷ lines) =
    let now = step weigh schema state line in
    let later = run weigh schema now.state lines in
    record { replies = text_of now.state.dims now.reply ∷ later.replies; state = later.state; refused = refusals_in now.reply + later.refused }

-- the dimensions of a schema, and no facts
abbrev pub empty_state : SchemaValue → State
empty_state schema = record { dims = schema.dims; facts = [] }

-- the run of a whole script from no facts on, where cells weigh as the policy of the schema says
abbrev pub run_of : SchemaValue → List (List ℕ) → Outcome
run_of schema lines = run (weigh_of schema.policy) schema (empty_state schema) lines

-- A run stops after its first lines in a state from which the other lines go on: the replies stand one after the other, and the
-- refusals add up.
pub record RunsInParts (weigh : CellStat → ℕ) (schema : SchemaValue) (first : State) (lines more : List (List ℕ)) : Type 0 where
  pub replies : (run weigh schema first (lines ++ more)).replies ≡ (run weigh schema first lines).replies ++ (run weigh schema (run weigh schema first lines).state more).replies
  pub state : (run weigh schema first (lines ++ more)).state ≡ (run weigh schema (run weigh schema first lines).state more).state
  pub refused : (run weigh schema first (lines ++ more)).refused ≡ (run weigh schema first lines).refused + (run weigh schema (run weigh schema first lines).state more).refused
