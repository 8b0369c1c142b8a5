-- What a keeper holds behind a line that was read and done on a cube at work.
use Rattle.std.proofs.Common.{◌≡◌, ℕ, ◌+◌, ◌≤◌, List, [], ◌∷◌, ◌++◌, length, Option, Result, sym, ap, ◌∙◌, subst}
use Rattle.std.specs.Prelude.{◌⊎◌}
use Rattle.cube_base.specs.declared.code.Code.{Code}
use Rattle.cube_model.specs.declared.statistic.CellStat.{CellStat}
use Rattle.schema_text.specs.Schema.{SchemaValue}
use Rattle.script_text.specs.declared.line.Line.{Line}
use Rattle.script_text.specs.ScriptLine.{line_of}
use Rattle.script_run.specs.declared.break_off.BreakOff.{BreakOff}
use Rattle.script_run.specs.declared.break_off.BreakOff.TheVariants.{Memory, Keep}
use Rattle.script_run.specs.Kept.{Commits, HasKept, IsGatheredStop, KeptAt, batches_at, batches_from}
use Rattle.script_run.specs.Progress.{HasDone, Working}
use Rattle.script_run.specs.Run.{State, run, state_of}
use Rattle.script_run.specs.Seen.{Told}
use Rattle.script_run.specs.Stop.{IsReadyFor}
use Rattle.script_run.proofs.Batches.{batches-here, batches-read, none_before, none_or_nothing}
use Rattle.script_run.proofs.Keeping.{has_kept-push, kept_at-answered, kept_at-fault, kept_at-gave_up, kept_at-more}

module _ {P : Type 0} (weigh : CellStat → ℕ) (schema : SchemaValue) (first : State) (lines : List (List ℕ)) (line : List ℕ) (start taken : Option (List ℕ)) (before : Told) (old : Working P) (read : Result Line Code) where
  -- what a line that was read commits is what its bytes commit behind the lines that are done
  batches_here : HasDone weigh schema first lines start taken old → line_of old.cube.schema line ≡ read → batches_from weigh old.cube.schema (state_of old.cube) read ≡ batches_at weigh schema (run weigh schema first lines).state line
  batches_here done is_read =
      sym (batches-read weigh old.cube.schema (state_of old.cube) line read is_read)
      ∙ batches-here weigh schema old.cube.schema old.cube.facts (run weigh schema first lines).state line done.schema_now done.facts

  which_here : HasDone weigh schema first lines start taken old → line_of old.cube.schema line ≡ read → IsReadyFor old.gathered read → (old.gathered ≡ []) ⊎ (batches_at weigh schema (run weigh schema first lines).state line ≡ [])
  which_here done is_read ready =
      subst (λ committed. (old.gathered ≡ []) ⊎ (committed ≡ [])) (batches_here done is_read) (none_or_nothing weigh old.cube.schema (state_of old.cube) read old.gathered ready)

  -- the line is done, and answered
  pub line_kept : (now after : Told) (more : List (List ℕ)) → IsReadyFor old.gathered read → HasDone weigh schema first lines start taken old → line_of old.cube.schema line ≡ read
      → HasKept weigh schema first lines before now old.gathered → Commits (batches_from weigh old.cube.schema (state_of old.cube) read) now after → length more ≤ length old.gathered + 1
      → HasKept weigh schema first (lines ++ line ∷ []) before after more
  line_kept now after more ready done is_read kept commits le =
      has_kept-push weigh schema first lines line before now after old.gathered more kept (subst (λ committed. Commits committed now after) (batches_here done is_read) commits) (which_here done is_read ready) le

  -- it is done, and not answered
  pub line_stopped : (now after : Told) (off : BreakOff) → IsReadyFor old.gathered read → HasDone weigh schema first lines start taken old → line_of old.cube.schema line ≡ read
      → HasKept weigh schema first lines before now old.gathered → Commits (batches_from weigh old.cube.schema (state_of old.cube) read) now after → IsGatheredStop (old.done + 1) (length old.gathered + 1) off
      → KeptAt weigh schema first (lines ++ line ∷ []) before after off
  line_stopped now after off ready done is_read kept commits stop =
      kept_at-answered weigh schema first lines line before now after old.gathered old.done off kept (subst (λ committed. Commits committed now after) (batches_here done is_read) commits) (which_here done is_read ready) done.done stop

  -- the keeper failed
  pub line_failed : (now after : Told) (off : BreakOff) → IsReadyFor old.gathered read → HasDone weigh schema first lines start taken old → line_of old.cube.schema line ≡ read
      → HasKept weigh schema first lines before now old.gathered → after ≡ now → length (batches_from weigh old.cube.schema (state_of old.cube) read) ≡ 1 → (off ≡ Keep old.done) ⊎ IsGatheredStop old.done (length old.gathered) off
      → KeptAt weigh schema first (lines ++ line ∷ []) before after off
  line_failed now after off ready done is_read kept same one stop =
      subst (λ told. KeptAt weigh schema first (lines ++ line ∷ []) before told off) (sym same)
      (kept_at-fault weigh schema first lines line before now old.gathered old.done off kept (sym (ap length (batches_here done is_read)) ∙ one) (none_before weigh old.cube.schema (state_of old.cube) read old.gathered ready one) done.done stop)

-- a line is not done: it ran out of memory, or the gathered replies could not be written
pub line_not_done : {P : Type 0} (weigh : CellStat → ℕ) (schema : SchemaValue) (first : State) (lines : List (List ℕ)) (line : List ℕ) (start taken : Option (List ℕ)) (before now after : Told) (old : Working P) (done : ℕ) (off : BreakOff)
    → HasDone weigh schema first lines start taken old → HasKept weigh schema first lines before now old.gathered → after ≡ now → done ≡ old.done
    → (off ≡ Memory done) ⊎ IsGatheredStop old.done (length old.gathered) off → KeptAt weigh schema first (lines ++ line ∷ []) before after off
line_not_done weigh schema first lines line start taken before now after old done off has kept same is_done stop =
    subst (λ told. KeptAt weigh schema first (lines ++ line ∷ []) before told off) (sym same)
    (kept_at-more weigh schema first lines (line ∷ []) before now off
    (kept_at-gave_up weigh schema first lines before now old.gathered old.done off kept has.done (subst (λ n. (off ≡ Memory n) ⊎ IsGatheredStop old.done (length old.gathered) off) is_done stop)))
