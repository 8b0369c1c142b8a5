-- What a script commits to a keeper, line by line.
use Rattle.std.specs.Prelude.{◌≡◌, ℕ, ◌+◌, ◌<◌, ◌≤◌, Bool, true, false, List, [], ◌∷◌, ◌++◌, fold, is_none, length, take, if◌then◌else◌, ⊤, Result, Ok, Err}
use Rattle.std.specs.Option.{option_map}
use Rattle.cube_base.specs.declared.code.Code.{Code}
use Rattle.cube_model.specs.declared.statistic.CellStat.{CellStat}
use Rattle.cube_core.specs.Growth.{growth_difference, judge_growth}
use Rattle.edit_plan.specs.Plan.{difference}
use Rattle.fact_keeper.specs.declared.content.Batch.{Batch}
use Rattle.fact_keeper.specs.declared.content.Stored.{Stored}
use Rattle.fact_keeper.specs.Batch.{apply_batch}
use Rattle.fact_records.specs.Judge.{judge}
use Rattle.schema_text.specs.Growth.{dims_with}
use Rattle.schema_text.specs.Schema.{SchemaValue, schema_policy, shape_of}
use Rattle.script_text.specs.declared.line.Line.{Line}
use Rattle.script_text.specs.declared.line.Line.TheVariants as line
use Rattle.script_text.specs.ScriptLine.{line_of}
use Rattle.script_run.specs.declared.break_off.BreakOff.{BreakOff}
use Rattle.script_run.specs.declared.break_off.BreakOff.TheVariants.{Write, SinkMemory, Memory, Keep}
use Rattle.script_run.specs.Run.{State, schema_at, step}
use Rattle.script_run.specs.Seen.{Told}

-- The batch of a line that was read, if it commits one: an edit or a growth that is accepted commits what it changes of what is kept.
-- Whatever is refused, skipped or asked commits none.
abbrev pub batches_of : (CellStat → ℕ) → SchemaValue → State → Line → List Batch
batches_of weigh schema state (line.Edit edit) =
    if is_none (judge (schema_policy weigh schema) (shape_of schema) state.dims edit state.facts) then difference (schema_policy weigh schema) state.dims edit state.facts ∷ [] else []
batches_of weigh schema state (line.Grow grow) =
    if is_none (judge_growth (schema_policy weigh schema) state.dims state.facts grow) then growth_difference (schema_policy weigh schema) (schema_at schema state) (dims_with grow state.dims) state.facts ∷ [] else []
batches_of weigh schema state line.Nothing = []
batches_of weigh schema state (line.Ask asked) = []

abbrev pub batches_from : (CellStat → ℕ) → SchemaValue → State → Result Line Code → List Batch
batches_from weigh schema state (Ok said) = batches_of weigh schema state said
batches_from weigh schema state (Err refusal) = []

-- that of the bytes of a line, which are read over the dimensions of the state
unfoldable pub batches_at : (CellStat → ℕ) → SchemaValue → State → List ℕ → List Batch
batches_at weigh schema state bytes = batches_from weigh schema state (line_of (schema_at schema state) bytes)

-- the batches of lines that are done one after the other from a first state on
abbrev pub batches : (CellStat → ℕ) → SchemaValue → State → List (List ℕ) → List Batch
batches weigh schema state [] = []
batches weigh schema state (line ∷ lines) = batches_at weigh schema state line ++ batches weigh schema (step weigh schema state line).state lines

-- the content after batches
abbrev pub apply_all : List Batch → Stored → Stored
apply_all committed content = fold (λ now batch. apply_batch batch now) content committed

-- these batches were committed, in this order, and no others
pub record Commits (committed : List Batch) (before after : Told) : Type 0 where
  pub content : after.content ≡ option_map (apply_all committed) before.content
  pub journal : after.journal ≡ option_map (λ earlier. earlier ++ committed) before.journal

-- The keeper holds what these lines make of what it held at the start. None but the first of the lines whose replies
-- are gathered commits, so that it holds the same after the first of them as after all.
pub record HasKept (weigh : CellStat → ℕ) (schema : SchemaValue) (first : State) (lines : List (List ℕ)) (start now : Told) (gathered : List (List ℕ)) : Type 0 where
  pub commits : Commits (batches weigh schema first lines) start now
  pub even : (n : ℕ) → length lines < n + length gathered → n ≤ length lines → batches weigh schema first (take n lines) ≡ batches weigh schema first lines

-- how many lines are done where a script breaks off, and how many were looked at
abbrev pub done_at : BreakOff → ℕ
done_at (Write line) = line
done_at (SinkMemory line) = line
done_at (Memory done) = done
done_at (Keep done) = done

abbrev pub reached_at : BreakOff → ℕ
reached_at (Keep done) = done + 1
reached_at off = done_at off

abbrev pub is_keep : BreakOff → Bool
is_keep (Keep done) = true
is_keep off = false

-- it breaks off within the replies that were gathered after those of the lines before
pub record IsGatheredStop (done gathered : ℕ) (off : BreakOff) : Type 0 where
  pub behind : done < done_at off + gathered
  pub among : done_at off ≤ done
  pub no_keep : is_keep off ≡ false

-- Where a write or the keeper breaks a script off, the line at which it does lies after those whose replies are
-- written: of so many that are done, the replies to the last few are gathered.
abbrev pub IsBehind : ℕ → ℕ → BreakOff → Type 0
IsBehind done gathered (Write line) = done < line + gathered
IsBehind done gathered (SinkMemory line) = ⊤
IsBehind done gathered (Memory some) = ⊤
IsBehind done gathered (Keep some) = done ≤ some + gathered

-- where the keeper failed, the line after those that are done commits: it is an edit or a growth that is accepted
abbrev pub CommitsNext : (CellStat → ℕ) → SchemaValue → State → List (List ℕ) → BreakOff → Type 0
CommitsNext weigh schema first lines (Keep done) = length (batches weigh schema first (take (done + 1) lines)) ≡ length (batches weigh schema first (take done lines)) + 1
CommitsNext weigh schema first lines off = ⊤

-- Where a script breaks off among these lines, the keeper holds what those make that are done.
pub record KeptAt (weigh : CellStat → ℕ) (schema : SchemaValue) (first : State) (lines : List (List ℕ)) (start now : Told) (off : BreakOff) : Type 0 where
  pub among : reached_at off ≤ length lines
  pub commits : Commits (batches weigh schema first (take (done_at off) lines)) start now
  pub next : CommitsNext weigh schema first lines off
