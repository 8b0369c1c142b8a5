-- What the ends of `check`, `export` and `drill` say, which take no input and keep nothing.
use Rattle.std.proofs.Common.{◌≡◌, ℕ, [], refl, sym, ap, ◌∙◌, subst, true, false, Some, Result}
use Rattle.cube_base.specs.declared.fault.SinkError.{SinkError}
use Rattle.cube_core.specs.Cube.{CubeValue}
use Rattle.drill_run.specs.Doing.{drill_of}
use Rattle.drill_run.specs.Summary.{summary_of}
use Rattle.fact_keeper.specs.Batch.{empty_content}
use Rattle.fact_keeper.specs.declared.content.Stored.{Stored}
use Rattle.schema_text.specs.Schema.{policy_of, schema_policy, weigh_of}
use Rattle.schema_text.specs.declared.word.PolicyWord.{PolicyWord}
use Rattle.store_audit.specs.Sound.{facts_told}
use Rattle.script_run.specs.Kept.{Commits}
use Rattle.script_run.specs.Seen.{NoWriteFault, SeenAll, WroteNothing}
use Rattle.cube_cli.specs.declared.command.Command.TheVariants.{Drill, Store}
use Rattle.cube_cli.specs.declared.command.StoreCommand.TheVariants.{Tell}
use Rattle.cube_cli.specs.declared.end.End.TheVariants.{Memory}
use Rattle.cube_cli.specs.declared.telling.Telling.{Telling}
use Rattle.cube_cli.specs.Doing.{Fits, OneWork, doing_of, ends_of, telling_work, text_work}
use Rattle.cube_cli.specs.End.{SaysOf}
use Rattle.cube_cli.specs.Files.{text_told}
use Rattle.cube_cli.specs.RunEnd.{end_of_write}
use Rattle.cube_cli.specs.Seen.{Holds, WasNotCalled, WasNotRead}
use Rattle.cube_cli.specs.Steps.{IsCubeOf, WritesText}
use Rattle.cube_cli.specs.Store.{IsSoundContent}
use Rattle.cube_cli.proofs.AtOnce.{GoesOn, written}
use Rattle.cube_cli.proofs.Auditing.{sound_content, text_same, work_with}
use Rattle.cube_cli.proofs.First.{wants_memory}
use Rattle.cube_cli.proofs.Keepers.{unkept}
use Rattle.cube_cli.proofs.Known.{of_any, of_given}

module _ (seen : SeenAll) (unread : WasNotRead seen.source) (uncalled : WasNotCalled seen.keeper) where
  -- the text that tells of a cube was to be written
  pub told : {T : Type 0} (telling : Telling) (cube : CubeValue PolicyWord) (content : Stored) → IsCubeOf cube content → Holds seen.keeper (λ kept. content ≡ kept) → (result : Result T SinkError)
      → WritesText (text_told telling (schema_policy (weigh_of cube.policy) cube.schema) cube.schema cube.facts) seen.sink result → SaysOf (Some (Store (Tell telling))) seen (end_of_write result 0 0)
  told telling cube content is given result text =
      let fitting : Holds seen.keeper IsSoundContent = of_given seen.keeper.told.content content IsSoundContent given (sound_content content cube.schema is.holds.schema_is is.sound) in
      let goes : GoesOn false false true IsSoundContent content [] seen = record { content_is = given; fitting = fitting; input_is = refl; unread = λ no. unread.read; unkept = λ no. uncalled.kept; read = unread.count } in
      let work_is : telling_work telling [] content ≡ text_work (text_told telling (schema_policy (weigh_of cube.policy) cube.schema) cube.schema cube.facts) =
      work_with content cube.schema (λ schema. text_work (text_told telling (policy_of schema) schema (facts_told content))) is.holds.schema_is ∙ sym (ap text_work (text_same telling cube content is)) in
      written (ends_of (Some (Store (Tell telling)))) false true false true 0 0 (telling_work telling) IsSoundContent seen content [] goes result refl refl refl uncalled.count
      (record {
        judged = record { is = ap (λ (w : OneWork). w.refusal) work_is; read = λ no. absurd (cc no) };
        kept = subst (λ batches. Commits batches seen.keeper.told seen.keeper.told_after) (sym (ap (λ (w : OneWork). w.kept) work_is)) (unkept seen.keeper uncalled.kept);
      })
      (subst (λ t. WritesText t seen.sink result) (sym (ap (λ (w : OneWork). w.text) work_is)) text)

  -- the line of a drill was
  pub drilled : {T : Type 0} (n : ℕ) (result : Result T SinkError) → WritesText (summary_of n) seen.sink result → SaysOf (Some (Drill n)) seen (end_of_write result (drill_of n).refused 0)
  drilled n result text =
      let goes : GoesOn false false false (Fits (Some (Drill n))) empty_content [] seen =
      record { content_is = refl; fitting = of_any seen.keeper.told.content _ (λ content. tt); input_is = refl; unread = λ no. unread.read; unkept = λ no. uncalled.kept; read = unread.count } in
      written (ends_of (Some (Drill n))) false false false false (drill_of n).refused 0 (λ input content. text_work (summary_of n)) (Fits (Some (Drill n))) seen empty_content [] goes result refl refl refl uncalled.count
      (record { judged = record { is = refl; read = λ no. absurd (cc no) }; kept = unkept seen.keeper uncalled.kept }) text

  pub drill_wants : (n : ℕ) → WroteNothing seen.sink → NoWriteFault seen.sink → SaysOf (Some (Drill n)) seen (Memory 0)
  drill_wants n wrote write =
      wants_memory seen (record { nothing = record { wrote = wrote; kept = uncalled.kept }; read = unread.read }) (ends_of (Some (Drill n))) (doing_of [] (Some (Drill n))) (Fits (Some (Drill n))) refl
      (record { read = unread.count; write = write; keep = uncalled.count })
