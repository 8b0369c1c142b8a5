-- What a line does, by how it is read.
use Rattle.std.proofs.Common.{◌≡◌, ℕ, List, Result, Ok, Err, refl, ap}
use Rattle.cube_base.specs.declared.code.Code.{Code}
use Rattle.cube_model.specs.declared.edit.Fact.{Fact}
use Rattle.cube_model.specs.declared.statistic.CellStat.{CellStat}
use Rattle.schema_text.specs.Schema.{SchemaValue}
use Rattle.script_text.specs.declared.line.Line.{Line}
use Rattle.script_text.specs.declared.line.Line.TheVariants as line
use Rattle.script_text.specs.ScriptLine.{line_of}
use Rattle.script_run.specs.Run.{State, schema_at, step, step_from}

pub step-read : (weigh : CellStat → ℕ) (schema : SchemaValue) (state : State) (bytes : List ℕ) (read : Result Line Code) → line_of (schema_at schema state) bytes ≡ read → step weigh schema state bytes ≡ step_from weigh schema state read
unfolding step
step-read weigh schema state bytes read is_read = ap (step_from weigh schema state) is_read

-- what is read does at a schema with the dimensions of the state what it does at the schema
said-here : (weigh : CellStat → ℕ) (schema : SchemaValue) (state : State) (read : Result Line Code) → step_from weigh (schema_at schema state) state read ≡ step_from weigh schema state read
said-here weigh schema state (Err refusal) = refl
said-here weigh schema state (Ok line.Nothing) = refl
said-here weigh schema state (Ok (line.Edit change)) = refl
said-here weigh schema state (Ok (line.Grow grow)) = refl
said-here weigh schema state (Ok (line.Ask asked)) = refl

-- and so does a line
pub step-here : (weigh : CellStat → ℕ) (schema here : SchemaValue) (facts : List Fact) (state : State) (bytes : List ℕ) → here ≡ schema_at schema state → facts ≡ state.facts
    → step weigh here (record { dims = here.dims; facts = facts }) bytes ≡ step weigh schema state bytes
unfolding step
step-here weigh schema here facts state bytes is_here are_facts = rw (is_here, are_facts) (said-here weigh schema state (line_of (schema_at schema state) bytes))
