-- What the ends of `import` say.
use Rattle.std.proofs.Common.{◌≡◌, ◌<◌, ◌≤◌, ℕ, List, [], ◌∷◌, length, refl, sym, ap, ◌∙◌, subst, true, false, le-ltb, lt-ltb, Option, Some, None, Result, Err}
use Rattle.std.specs.Prelude.{codes, if◌then◌else◌}
use Rattle.cube_base.specs.declared.fault.SinkError.{SinkError}
use Rattle.cube_core.specs.Cube.{CubeValue, cube_rows}
use Rattle.cube_core.specs.Import.{CountsImportFault, IsImportFaultOf, import_difference_in, import_refreshed_in, imported, refused_in_cube}
use Rattle.cube_core.specs.declared.fault.ImportFault.{ImportFault}
use Rattle.cube_core.specs.declared.fault.ImportFault.TheVariants as import_fault
use Rattle.cube_model.specs.Allocation.{Policy, row_count}
use Rattle.cube_model.specs.Limits.{MAX_ROWS}
use Rattle.fact_keeper.specs.declared.content.Stored.{Stored}
use Rattle.fact_records.specs.declared.fact_seq.BadRecord.{BadRecord as RecordAt}
use Rattle.fact_records.specs.declared.fact_seq.FactSeq.{FactSeq}
use Rattle.text_lines.specs.Input.{INPUT_LIMIT, StopsReading, Taken}
use Rattle.text_lines.specs.declared.input.InputStop.{InputStop}
use Rattle.schema_text.specs.Schema.{SchemaValue, policy_of, schema_policy, weigh_of}
use Rattle.schema_text.specs.declared.word.PolicyWord.{PolicyWord}
use Rattle.store_audit.specs.Sound.{facts_told}
use Rattle.script_run.specs.Kept.{Commits}
use Rattle.script_run.specs.Seen.{NoKeepFault, NoReadFault, NoWriteFault, SeenAll}
use Rattle.cube_cli.specs.declared.command.Command.TheVariants.{Store}
use Rattle.cube_cli.specs.declared.command.StoreCommand.TheVariants.{Input}
use Rattle.cube_cli.specs.declared.end.End.{End}
use Rattle.cube_cli.specs.declared.end.End.TheVariants.{BadRecord, ImportRows, Memory}
use Rattle.cube_cli.specs.declared.store.InputTask.TheVariants.{Import}
use Rattle.cube_cli.specs.Doing.{Fits, OneWork, ends_of, file_work, import_work}
use Rattle.cube_cli.specs.End.{SaysOf}
use Rattle.cube_cli.specs.Files.{IsAccepted, count_line, import_batch, imported_line, refused_file, row_count_with_file, seq_of}
use Rattle.cube_cli.specs.RunEnd.{end_of_import, end_of_stop, end_of_write}
use Rattle.cube_cli.specs.Seen.{DidNothing, Holds}
use Rattle.cube_cli.specs.Steps.{IsCubeOf, WritesText}
use Rattle.cube_cli.specs.Store.{IsSoundContent}
use Rattle.cube_cli.proofs.AtOnce.{GoesOn, bad_record, keep_failed, many_rows, not_taken, wants, written}
use Rattle.cube_cli.proofs.Auditing.{sound_content, work_with}
use Rattle.cube_cli.proofs.Known.{of_given}

-- whether a file is refused
few-none : (rows : ℕ) → rows ≤ MAX_ROWS → refused_file None rows ≡ None
few-none rows few = ap (λ b. if b then Some (ImportRows rows) else None) (le-ltb MAX_ROWS rows few)

many-some : (rows : ℕ) → MAX_ROWS < rows → refused_file None rows ≡ Some (ImportRows rows)
many-some rows many = ap (λ b. if b then Some (ImportRows rows) else None) (lt-ltb MAX_ROWS rows many)

-- the cube is that of a content
module _ (cube : CubeValue PolicyWord) (content : Stored) (is : IsCubeOf cube content) (seen : SeenAll) (given : Holds seen.keeper (λ kept. content ≡ kept)) where
  fitting : Holds seen.keeper IsSoundContent
  fitting = of_given seen.keeper.told.content content IsSoundContent given (sound_content content cube.schema is.holds.schema_is is.sound)

  pub import_stopped : (stop : InputStop) → NoKeepFault seen.keeper → NoWriteFault seen.sink → DidNothing seen
      → StopsReading INPUT_LIMIT seen.source.left seen.source.left_after seen.source.faults seen.source.faults_after stop → SaysOf (Some (Store (Input Import))) seen (end_of_stop stop)
  import_stopped stop keep write nothing stops =
      not_taken (ends_of (Some (Store (Input Import)))) true import_work (Fits (Some (Store (Input Import)))) seen keep write nothing stop refl refl refl fitting stops

  -- the file was taken
  module _ (file : List ℕ) (taken : Taken INPUT_LIMIT seen.source.left seen.source.left_after file) (read : NoReadFault seen.source) where
    goes : GoesOn true true true IsSoundContent content file seen
    goes = record { content_is = given; fitting = fitting; input_is = taken; unread = λ is. absurd (cc is); unkept = λ is. absurd (cc is); read = read }

    abbrev policy : Policy
    policy = schema_policy (weigh_of cube.policy) cube.schema

    abbrev work : OneWork
    work = file_work policy cube.schema cube.facts file

    work_is : import_work file content ≡ work
    work_is =
        work_with content cube.schema (λ schema. file_work (policy_of schema) schema (facts_told content) file) is.holds.schema_is
        ∙ sym (ap (λ p. file_work (schema_policy (weigh_of p) cube.schema) cube.schema cube.facts file) is.policy_is ∙ ap (λ fs. file_work (policy_of cube.schema) cube.schema fs file) is.facts_are)

    refusal_is : (refusal : Option End) → work.refusal ≡ refusal → (import_work file content).refusal ≡ refusal
    refusal_is refusal here = ap (λ (w : OneWork). w.refusal) work_is ∙ here

    -- and read
    module _ (seq : FactSeq) (seq_is : seq ≡ seq_of cube.schema file) where
      refused_with : (answer : Option RecordAt) → refused_in_cube cube seq ≡ answer → (import_work file content).refusal ≡ refused_file answer (row_count_with_file policy cube.schema cube.facts file)
      refused_with answer here =
          refusal_is (refused_file answer (row_count_with_file policy cube.schema cube.facts file))
          (ap (λ r. refused_file r (row_count_with_file policy cube.schema cube.facts file)) (subst (λ s. refused_in_cube cube s ≡ answer) seq_is here))

      rows_are : row_count (cube_rows weigh_of (imported seq.facts cube)) ≡ row_count_with_file policy cube.schema cube.facts file
      rows_are = ap (λ (s : FactSeq). row_count (cube_rows weigh_of (imported s.facts cube))) seq_is

      none_refused : refused_in_cube cube seq ≡ None → row_count (cube_rows weigh_of (imported seq.facts cube)) ≤ MAX_ROWS → (import_work file content).refusal ≡ None
      none_refused accepted few = refused_with None accepted ∙ few-none (row_count_with_file policy cube.schema cube.facts file) (subst (λ n. n ≤ MAX_ROWS) rows_are few)

      -- all its facts were put, and the reply says so
      pub import_kept : {T : Type 0} (result : Result T SinkError) (refreshed : List ℕ) → refused_in_cube cube seq ≡ None → row_count (cube_rows weigh_of (imported seq.facts cube)) ≤ MAX_ROWS
          → refreshed ≡ import_refreshed_in weigh_of cube seq.facts → Commits (import_difference_in weigh_of cube seq.facts ∷ []) seen.keeper.told seen.keeper.told_after → NoKeepFault seen.keeper
          → WritesText (count_line (codes "imported") (length seq.facts) (length refreshed)) seen.sink result → SaysOf (Some (Store (Input Import))) seen (end_of_write result 0 1)
      import_kept result refreshed accepted few refreshes commits keep text =
          let line : count_line (codes "imported") (length seq.facts) (length refreshed) ≡ imported_line policy cube.schema cube.facts file =
          ap (λ ids. count_line (codes "imported") (length seq.facts) (length ids)) refreshes
          ∙ ap (λ (s : FactSeq). count_line (codes "imported") (length s.facts) (length (import_refreshed_in weigh_of cube s.facts))) seq_is in
          let batch : import_difference_in weigh_of cube seq.facts ∷ [] ≡ import_batch policy cube.schema cube.facts file ∷ [] = ap (λ (s : FactSeq). import_difference_in weigh_of cube s.facts ∷ []) seq_is in
          written (ends_of (Some (Store (Input Import)))) true true true true 0 1 import_work IsSoundContent seen content file goes result refl refl refl keep
          (record {
            judged = record { is = none_refused accepted few; read = λ is. record { within = taken.within; end = taken.end } };
            kept = subst (λ batches. Commits batches seen.keeper.told seen.keeper.told_after) (batch ∙ sym (ap (λ (w : OneWork). w.kept) work_is)) commits;
          })
          (subst (λ t. WritesText t seen.sink result) (line ∙ sym (ap (λ (w : OneWork). w.text) work_is)) text)

      -- or it was refused
      pub import_refused : (fault : ImportFault) → IsImportFaultOf weigh_of cube seq fault → NoWriteFault seen.sink → DidNothing seen → CountsImportFault {R = ℕ} seen.keeper.faults seen.keeper.faults_after (Err fault)
          → SaysOf (Some (Store (Input Import))) seen (end_of_import fault)
      import_refused (import_fault.BadRecord bad) why write nothing keep =
          bad_record (ends_of (Some (Store (Input Import)))) true import_work IsSoundContent seen keep write nothing content file goes bad refl (refused_with (Some bad) why)
      import_refused (import_fault.Rows would) why write nothing keep =
          many_rows (ends_of (Some (Store (Input Import)))) true import_work IsSoundContent seen keep write nothing content file goes would refl
          (refused_with None why.0
          ∙ subst (λ n. refused_file None n ≡ Some (ImportRows would)) (why.1.0 ∙ rows_are) (many-some would why.1.1))
      import_refused import_fault.KeepFault why write nothing keep =
          keep_failed (ends_of (Some (Store (Input Import)))) true import_work IsSoundContent seen keep write nothing content file goes refl (none_refused why.0 why.1)
      import_refused import_fault.Memory why write nothing keep =
          wants (ends_of (Some (Store (Input Import)))) true import_work IsSoundContent seen keep write nothing content file goes refl

    -- or it ran out of memory
    pub import_wants : NoKeepFault seen.keeper → NoWriteFault seen.sink → DidNothing seen → SaysOf (Some (Store (Input Import))) seen (Memory 0)
    import_wants keep write nothing = wants (ends_of (Some (Store (Input Import)))) true import_work IsSoundContent seen keep write nothing content file goes refl
