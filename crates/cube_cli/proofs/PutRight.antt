-- What the ends of `rebuild` say, which takes no input and commits one batch at most.
use Rattle.std.proofs.Common.{◌≡◌, ℕ, ◌≤◌, Bool, true, false, List, [], ◌∷◌, length, refl, sym, ap, ◌∙◌, subst, inl, inr, arith, Some, None, Result, Ok, Err}
use Rattle.std.specs.Prelude.{◌==◌, IsOkAnd, codes, if◌then◌else◌}
use Rattle.std.specs.Fmt.{decimal}
use Rattle.cube_base.specs.declared.fault.SinkError.{SinkError}
use Rattle.cube_base.specs.declared.fault.SinkError.TheVariants as sink_error
use Rattle.fact_keeper.specs.declared.content.Batch.{Batch}
use Rattle.fact_keeper.specs.declared.content.Stored.{Stored}
use Rattle.fact_keeper.specs.declared.keeper.KeepError.{KeepError}
use Rattle.fact_keeper.specs.declared.keeper.KeepError.TheVariants as keep_error
use Rattle.fact_keeper.specs.Keeper.{CountsKeepFault}
use Rattle.text_lines.specs.Input.{INPUT_LIMIT, TakesAtMost}
use Rattle.schema_text.specs.Schema.{SchemaValue, policy_of, schema_policy, shape_of, weigh_of}
use Rattle.schema_text.specs.declared.word.PolicyWord.{PolicyWord}
use Rattle.script_run.specs.Kept.{Commits}
use Rattle.script_run.specs.Seen.{NoKeepFault, SeenAll}
use Rattle.text_lines.specs.Text.{line_text}
use Rattle.store_audit.specs.Mending.{IsMendable, changed_by, mended_batch}
use Rattle.store_audit.specs.Sound.{rows_counted}
use Rattle.store_audit.specs.declared.mending.Mending.{Mending}
use Rattle.cube_cli.specs.declared.command.Command.TheVariants.{Store}
use Rattle.cube_cli.specs.declared.command.StoreCommand.TheVariants.{Rebuild}
use Rattle.cube_cli.specs.declared.end.End.{End}
use Rattle.cube_cli.specs.declared.end.End.TheVariants.{Finished, KeepFault, Memory, WriteFault}
use Rattle.cube_cli.specs.Doing.{Fits, OneWork, doing_of, ends_of, mending_work, rebuild_work}
use Rattle.cube_cli.specs.End.{DidKeep, FitsAt, MeansAsNeeded, SaysOf}
use Rattle.cube_cli.specs.Files.{mending_batches, rebuilt_line}
use Rattle.cube_cli.specs.RunEnd.{end_of_keep, end_of_write}
use Rattle.cube_cli.specs.Seen.{Holds, IsUntouched, WasNotRead}
use Rattle.cube_cli.specs.Steps.{HoldsSchema, IsMendingOf, WritesText}
use Rattle.cube_cli.specs.Store.{IsMendableContent, IsMendableOver}
use Rattle.cube_cli.proofs.Auditing.{work_with}
use Rattle.cube_cli.proofs.First.{IsStill, keep_fault, left_all, wants_memory}
use Rattle.cube_cli.proofs.Known.{of_given, took_nothing}

-- what puts the rows of a content right, by a policy that is the schema's
pub mending_of : (mending : Mending) (schema : SchemaValue) (policy : PolicyWord) (content : Stored) → policy ≡ schema.policy → HoldsSchema schema content
    → mending.batch ≡ mended_batch (schema_policy (weigh_of policy) schema) schema.dims content → mending.facts ≡ length content.facts → mending.rows ≡ rows_counted (schema_policy (weigh_of policy) schema) schema.dims content
    → IsMendable (schema_policy (weigh_of policy) schema) (shape_of schema) schema.dims content → IsMendingOf mending schema content
mending_of mending schema policy content named holds batch facts rows mendable = record {
  holds = holds;
  mendable = subst (λ p. IsMendable (schema_policy (weigh_of p) schema) (shape_of schema) schema.dims content) named mendable;
  batch_is = subst (λ p. mending.batch ≡ mended_batch (schema_policy (weigh_of p) schema) schema.dims content) named batch;
  facts_are = facts;
  rows_are = subst (λ p. mending.rows ≡ rows_counted (schema_policy (weigh_of p) schema) schema.dims content) named rows;
}

-- what is told by it is what is told of the content
pub line_of : (mending : Mending) (schema : SchemaValue) (content : Stored) (changed : ℕ) → IsMendingOf mending schema content → changed ≡ changed_by mending.batch
    → line_text (codes "rebuilt") (decimal mending.facts ∷ decimal mending.rows ∷ decimal changed ∷ []) ≡ rebuilt_line (policy_of schema) schema.dims content
line_of mending schema content changed is same =
    ap (λ n. line_text (codes "rebuilt") (decimal n ∷ decimal mending.rows ∷ decimal changed ∷ [])) is.facts_are
    ∙ ap (λ n. line_text (codes "rebuilt") (decimal (length content.facts) ∷ decimal n ∷ decimal changed ∷ [])) is.rows_are
    ∙ ap (λ n. line_text (codes "rebuilt") (decimal (length content.facts) ∷ decimal (rows_counted (policy_of schema) schema.dims content) ∷ decimal n ∷ [])) (same ∙ ap changed_by is.batch_is)

-- what is kept is nothing where nothing is to be changed, and else the batch
kept_by : (batch : Batch) (none : Bool) → (changed_by batch == 0) ≡ none → (if changed_by batch == 0 then [] else batch ∷ []) ≡ (if none then [] else batch ∷ [])
kept_by batch none is = ap (λ none. if none then [] else batch ∷ []) is

module _ (seen : SeenAll) (unread : WasNotRead seen.source) (mending : Mending) (schema : SchemaValue) (content : Stored) (given : Holds seen.keeper (λ kept. content ≡ kept)) (is : IsMendingOf mending schema content) where
  work_is : rebuild_work [] content ≡ mending_work (policy_of schema) schema content
  work_is = work_with content schema (λ schema. mending_work (policy_of schema) schema content) is.holds.schema_is

  mendable : IsMendableContent content
  mendable = subst (λ r. IsOkAnd r (λ schema. IsMendableOver schema content)) (sym is.holds.schema_is) is.mendable

  few : TakesAtMost INPUT_LIMIT seen.source.left seen.source.left_after
  few = took_nothing INPUT_LIMIT seen.source.left seen.source.left_after unread.read

  fitting : (end : End) → FitsAt IsMendableContent seen end content → Holds seen.keeper (FitsAt IsMendableContent seen end)
  fitting end here = of_given seen.keeper.told.content content (FitsAt IsMendableContent seen end) given here

  means : (end : End) → MeansAsNeeded (rebuild_work [] content) false [] seen end → Holds seen.keeper (λ content. MeansAsNeeded (rebuild_work [] content) false [] seen end)
  means end told = of_given seen.keeper.told.content content (λ content. MeansAsNeeded (rebuild_work [] content) false [] seen end) given told

  -- the text was to be written, behind these batches
  module _ (kept : List Batch) (kept_is : (rebuild_work [] content).kept ≡ kept) (one : length kept ≤ 1) (commits : Commits kept seen.keeper.told seen.keeper.told_after) (keep : NoKeepFault seen.keeper) where
    did : DidKeep (rebuild_work [] content) false [] seen
    did = record {
      judged = record { is = ap (λ (w : OneWork). w.refusal) work_is; read = λ no. absurd (cc no) };
      kept = subst (λ batches. Commits batches seen.keeper.told seen.keeper.told_after) (sym kept_is) commits;
    }

    number : length kept ≡ length (rebuild_work [] content).kept
    number = ap length (sym kept_is)

    written : {T : Type 0} (result : Result T SinkError) → WritesText (rebuild_work [] content).text seen.sink result → SaysOf (Some (Store Rebuild)) seen (end_of_write result 0 (length kept))
    written (Ok ok) text = record {
      may = refl;
      faults = record { read = unread.count; write = text.0; keep = keep };
      takes = few;
      leaves = tt;
      unread = λ no. unread.read;
      unkept = λ no. absurd (cc no);
      counts = refl;
      fits = fitting (Finished 0) mendable;
      means = means (Finished 0) (refl, (did, text.1));
    }
    written (Err sink_error.Failed) text = record {
      may = refl;
      faults = record { cause = text.0; read = unread.count; keep = keep };
      takes = few;
      leaves = tt;
      unread = λ no. unread.read;
      unkept = λ no. absurd (cc no);
      counts = one;
      fits = fitting (WriteFault (length kept)) mendable;
      means = means (WriteFault (length kept)) (number, (did, text.1));
    }
    written (Err sink_error.Memory) text = record {
      may = refl;
      faults = record { read = unread.count; write = text.0; keep = keep };
      takes = few;
      leaves = tt;
      unread = λ no. unread.read;
      unkept = λ no. absurd (cc no);
      counts = inr one;
      fits = fitting (Memory (length kept)) (inr mendable);
      means = means (Memory (length kept)) (inr number, inr (number, did, text.1));
    }

  text_is : (rebuild_work [] content).text ≡ rebuilt_line (policy_of schema) schema.dims content
  text_is = ap (λ (w : OneWork). w.text) work_is

  kept_are : (rebuild_work [] content).kept ≡ mending_batches (policy_of schema) schema.dims content
  kept_are = ap (λ (w : OneWork). w.kept) work_is

  -- nothing was to be changed
  pub rebuilt_none : {T : Type 0} → changed_by mending.batch ≡ 0 → Commits [] seen.keeper.told seen.keeper.told_after → NoKeepFault seen.keeper → (result : Result T SinkError)
      → WritesText (rebuilt_line (policy_of schema) schema.dims content) seen.sink result → SaysOf (Some (Store Rebuild)) seen (end_of_write result 0 0)
  rebuilt_none none commits keep result text =
      let no_change : (changed_by (mended_batch (policy_of schema) schema.dims content) == 0) ≡ true = cc (none, is.batch_is) in
      written [] (kept_are ∙ kept_by (mended_batch (policy_of schema) schema.dims content) true no_change) (omega arith) commits keep result (subst (λ t. WritesText t seen.sink result) (sym text_is) text)

  -- or something was, and is
  pub rebuilt_one : {T : Type 0} → (changed_by mending.batch == 0) ≡ false → Commits (mending.batch ∷ []) seen.keeper.told seen.keeper.told_after → NoKeepFault seen.keeper → (result : Result T SinkError)
      → WritesText (rebuilt_line (policy_of schema) schema.dims content) seen.sink result → SaysOf (Some (Store Rebuild)) seen (end_of_write result 0 1)
  rebuilt_one some commits keep result text =
      let change : (changed_by (mended_batch (policy_of schema) schema.dims content) == 0) ≡ false = subst (λ b. (changed_by b == 0) ≡ false) is.batch_is some in
      written (mended_batch (policy_of schema) schema.dims content ∷ []) (kept_are ∙ kept_by (mended_batch (policy_of schema) schema.dims content) false change) (omega arith)
      (subst (λ b. Commits (b ∷ []) seen.keeper.told seen.keeper.told_after) is.batch_is commits) keep result (subst (λ t. WritesText t seen.sink result) (sym text_is) text)

-- or the keeper did not keep it
pub not_rebuilt : (seen : SeenAll) → IsStill seen → (error : KeepError) → IsUntouched seen.keeper → CountsKeepFault {T = ℕ} seen.keeper.faults seen.keeper.faults_after (Err error) → SaysOf (Some (Store Rebuild)) seen (end_of_keep error)
not_rebuilt seen still keep_error.Failed kept count =
    keep_fault seen (left_all seen still kept) (ends_of (Some (Store Rebuild))) (doing_of [] (Some (Store Rebuild))) (Fits (Some (Store Rebuild))) refl (record { cause = count; read = still.read.count; write = still.write })
not_rebuilt seen still keep_error.Memory kept count =
    wants_memory seen (left_all seen still kept) (ends_of (Some (Store Rebuild))) (doing_of [] (Some (Store Rebuild))) (Fits (Some (Store Rebuild))) refl (record { read = still.read.count; write = still.write; keep = count })
