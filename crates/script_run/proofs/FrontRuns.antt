-- Lines do what their fronts do.
use Rattle.std.proofs.Common.{◌≡◌, ℕ, ◌+◌, ◌≤◌, List, [], ◌∷◌, ◌++◌, length, map, take, refl, sym, ap, ◌∙◌, subst, inl, inr}
use Rattle.std.proofs.lemmas.Bool.{cases_lt}
use Rattle.std.proofs.lemmas.List.{length-map, take-map, take_all}
use Rattle.cube_model.specs.declared.statistic.CellStat.{CellStat}
use Rattle.text_lines.specs.Pieces.{front}
use Rattle.schema_text.specs.Schema.{SchemaValue}
use Rattle.script_text.specs.ScriptLine.{line_of}
use Rattle.script_text.proofs.LineSteps.{line_of-front}
use Rattle.text_lines.specs.LineText.{LINE_FRONT}
use Rattle.script_run.specs.declared.break_off.BreakOff.{BreakOff}
use Rattle.script_run.specs.declared.break_off.BreakOff.TheVariants.{Write, SinkMemory, Memory, Keep}
use Rattle.script_run.specs.Kept.{Commits, CommitsNext, KeptAt, batches, batches_at, batches_from, done_at, reached_at}
use Rattle.script_run.specs.Run.{Outcome, State, Step, refusals_in, run, schema_at, step, step_from, text_of}
use Rattle.script_run.specs.Seen.{Told}

-- a line says what its front says, however long it is
pub line_of-any_front : (schema : SchemaValue) (line : List ℕ) → line_of schema (front line) ≡ line_of schema line
line_of-any_front schema line =
    elim (cases_lt LINE_FRONT (length line)) [
      | inl long ↦ sym (line_of-front schema line long)
      | inr short ↦ ap (line_of schema) (take_all LINE_FRONT line short)
    ]

pub step-front : (weigh : CellStat → ℕ) (schema : SchemaValue) (state : State) (line : List ℕ) → step weigh schema state (front line) ≡ step weigh schema state line
unfolding step
step-front weigh schema state line = ap (step_from weigh schema state) (line_of-any_front (schema_at schema state) line)

pub batches_at-front : (weigh : CellStat → ℕ) (schema : SchemaValue) (state : State) (line : List ℕ) → batches_at weigh schema state (front line) ≡ batches_at weigh schema state line
unfolding batches_at
batches_at-front weigh schema state line = ap (batches_from weigh schema state) (line_of-any_front (schema_at schema state) line)

-- what a line does, and what others do behind it
ran : Step → Outcome → Outcome
ran now later = record { replies = text_of now.state.dims now.reply ∷ later.replies; state = later.state; refused = refusals_in now.reply + later.refused }

pub run-front : (weigh : CellStat → ℕ) (schema : SchemaValue) (first : State) (lines : List (List ℕ)) → run weigh schema first (map front lines) ≡ run weigh schema first lines
unfolding ran
run-front weigh schema first [] = refl
run-front weigh schema first (line ∷ lines) =
    ap (λ (now : Step). ran now (run weigh schema now.state (map front lines))) (step-front weigh schema first line)
    ∙ ap (ran (step weigh schema first line)) (run-front weigh schema (step weigh schema first line).state lines)

pub batches-front : (weigh : CellStat → ℕ) (schema : SchemaValue) (first : State) (lines : List (List ℕ)) → batches weigh schema first (map front lines) ≡ batches weigh schema first lines
batches-front weigh schema first [] = refl
batches-front weigh schema first (line ∷ lines) =
    ap (λ committed. committed ++ batches weigh schema (step weigh schema first (front line)).state (map front lines)) (batches_at-front weigh schema first line)
    ∙ ap (λ (now : Step). batches_at weigh schema first line ++ batches weigh schema now.state (map front lines)) (step-front weigh schema first line)
    ∙ ap (λ committed. batches_at weigh schema first line ++ committed) (batches-front weigh schema (step weigh schema first line).state lines)

-- and what is kept where the fronts break off is kept where the lines do
batches-take_front : (weigh : CellStat → ℕ) (schema : SchemaValue) (first : State) (lines : List (List ℕ)) (n : ℕ) → batches weigh schema first (take n (map front lines)) ≡ batches weigh schema first (take n lines)
batches-take_front weigh schema first lines n = ap (batches weigh schema first) (take-map front n lines) ∙ batches-front weigh schema first (take n lines)

commits_next-front : (weigh : CellStat → ℕ) (schema : SchemaValue) (first : State) (lines : List (List ℕ)) (off : BreakOff) → CommitsNext weigh schema first (map front lines) off → CommitsNext weigh schema first lines off
commits_next-front weigh schema first lines (Write line) next = tt
commits_next-front weigh schema first lines (SinkMemory line) next = tt
commits_next-front weigh schema first lines (Memory done) next = tt
commits_next-front weigh schema first lines (Keep done) next =
    sym (ap length (batches-take_front weigh schema first lines (done + 1)))
    ∙ next
    ∙ ap (λ committed. length committed + 1) (batches-take_front weigh schema first lines done)

pub kept_at-front : (weigh : CellStat → ℕ) (schema : SchemaValue) (first : State) (lines : List (List ℕ)) (start now : Told) (off : BreakOff) → KeptAt weigh schema first (map front lines) start now off → KeptAt weigh schema first lines start now off
kept_at-front weigh schema first lines start now off kept = record {
  among = subst (λ n. reached_at off ≤ n) (length-map lines front) kept.among;
  commits = subst (λ committed. Commits committed start now) (batches-take_front weigh schema first lines (done_at off)) kept.commits;
  next = commits_next-front weigh schema first lines off kept.next;
}
