-- What the ends of `init` say.
use Rattle.std.proofs.Common.{◌≡◌, ℕ, List, [], ◌∷◌, refl, sym, ap, subst, true, false, Some, None, Result, Ok, Err}
use Rattle.std.specs.Option.{option_map_or}
use Rattle.std.specs.Result.{result_ok}
use Rattle.cube_base.specs.declared.fault.SinkError.{SinkError}
use Rattle.fact_keeper.specs.Batch.{empty_content}
use Rattle.fact_keeper.specs.Keeper.{CountsKeepFault}
use Rattle.fact_keeper.specs.declared.keeper.KeepError.{KeepError}
use Rattle.fact_keeper.specs.declared.keeper.KeepError.TheVariants as keep_error
use Rattle.text_lines.specs.Input.{INPUT_LIMIT, StopsReading, Taken}
use Rattle.text_lines.specs.declared.input.InputStop.{InputStop}
use Rattle.schema_text.specs.Schema.{SchemaValue}
use Rattle.schema_text.specs.declared.schema.SchemaFault.{SchemaFault}
use Rattle.schema_text.specs.declared.schema.SchemaFault.TheVariants as schema_fault
use Rattle.script_run.specs.Kept.{Commits}
use Rattle.script_run.specs.Seen.{NoKeepFault, NoReadFault, NoWriteFault, SeenAll}
use Rattle.cube_cli.specs.declared.command.Command.TheVariants.{Store}
use Rattle.cube_cli.specs.declared.command.StoreCommand.TheVariants.{Init}
use Rattle.cube_cli.specs.declared.end.End.TheVariants.{Memory}
use Rattle.cube_cli.specs.Doing.{Fits, INIT_LINE, doing_of, ends_of, init_work, refused_schema}
use Rattle.cube_cli.specs.End.{SaysOf}
use Rattle.cube_cli.specs.RunEnd.{end_of_keep, end_of_schema, end_of_stop, end_of_write}
use Rattle.cube_cli.specs.SchemaAlone.{HasCauseAlone, schema_alone}
use Rattle.cube_cli.specs.Seen.{DidNothing, Holds, IsUntouched}
use Rattle.cube_cli.specs.Steps.{WritesText}
use Rattle.cube_cli.specs.Store.{schema_batch}
use Rattle.cube_cli.proofs.AtOnce.{GoesOn, bad_schema, keep_failed, not_taken, wants, written}
use Rattle.cube_cli.proofs.First.{IsStill, keep_fault, left_all, wants_memory}

-- there was nothing in the store
module _ (seen : SeenAll) (empty : Holds seen.keeper (λ kept. kept ≡ empty_content)) where
  pub init_stopped : (stop : InputStop) → NoKeepFault seen.keeper → NoWriteFault seen.sink → DidNothing seen
      → StopsReading INPUT_LIMIT seen.source.left seen.source.left_after seen.source.faults seen.source.faults_after stop → SaysOf (Some (Store Init)) seen (end_of_stop stop)
  init_stopped stop keep write nothing stops =
      not_taken (ends_of (Some (Store Init))) false init_work (Fits (Some (Store Init))) seen keep write nothing stop refl refl refl empty stops

  -- the input was taken
  module _ (input : List ℕ) (taken : Taken INPUT_LIMIT seen.source.left seen.source.left_after input) (read : NoReadFault seen.source) where
    goes : GoesOn true true false (Fits (Some (Store Init))) empty_content input seen
    goes = record { content_is = refl; fitting = empty; input_is = taken; unread = λ is. absurd (cc is); unkept = λ is. absurd (cc is); read = read }

    module _ (keep : NoKeepFault seen.keeper) (write : NoWriteFault seen.sink) (nothing : DidNothing seen) where
      init_wants : SaysOf (Some (Store Init)) seen (Memory 0)
      init_wants = wants (ends_of (Some (Store Init))) false init_work (Fits (Some (Store Init))) seen keep write nothing empty_content input goes refl

      pub init_refused : (fault : SchemaFault) → HasCauseAlone input fault → SaysOf (Some (Store Init)) seen (end_of_schema fault)
      init_refused (schema_fault.Bad line why) is =
          bad_schema (ends_of (Some (Store Init))) false init_work (Fits (Some (Store Init))) seen keep write nothing empty_content input goes line why refl (ap refused_schema is)
      init_refused schema_fault.Memory is = init_wants

    -- it is a schema alone
    module _ (schema : SchemaValue) (alone : schema_alone input ≡ Ok schema) where
      accepted : (init_work input empty_content).refusal ≡ None
      accepted = ap refused_schema alone

      pub init_kept : {T : Type 0} (result : Result T SinkError) → NoKeepFault seen.keeper → Commits (schema_batch schema ∷ []) seen.keeper.told seen.keeper.told_after → WritesText INIT_LINE seen.sink result
          → SaysOf (Some (Store Init)) seen (end_of_write result 0 1)
      init_kept result keep commits text =
          written (ends_of (Some (Store Init))) true true true false 0 1 init_work (Fits (Some (Store Init))) seen empty_content input goes result refl refl refl keep
          (record {
            judged = record { is = accepted; read = λ is. record { within = taken.within; end = taken.end } };
            kept = subst (λ batches. Commits batches seen.keeper.told seen.keeper.told_after) (sym (ap (λ read. option_map_or (λ schema. schema_batch schema ∷ []) (result_ok read) []) alone)) commits;
          })
          text

      pub init_not_kept : (error : KeepError) → CountsKeepFault {T = ℕ} seen.keeper.faults seen.keeper.faults_after (Err error) → NoWriteFault seen.sink → DidNothing seen → SaysOf (Some (Store Init)) seen (end_of_keep error)
      init_not_kept keep_error.Failed count write nothing =
          keep_failed (ends_of (Some (Store Init))) false init_work (Fits (Some (Store Init))) seen count write nothing empty_content input goes refl accepted
      init_not_kept keep_error.Memory count write nothing = init_wants count write nothing

-- the store was not loaded
pub init_not_loaded : (seen : SeenAll) → IsStill seen → (error : KeepError) → IsUntouched seen.keeper → CountsKeepFault {T = ℕ} seen.keeper.faults seen.keeper.faults_after (Err error) → SaysOf (Some (Store Init)) seen (end_of_keep error)
init_not_loaded seen still keep_error.Failed kept count =
    keep_fault seen (left_all seen still kept) (ends_of (Some (Store Init))) (doing_of [] (Some (Store Init))) (Fits (Some (Store Init))) refl (record { cause = count; read = still.read.count; write = still.write })
init_not_loaded seen still keep_error.Memory kept count =
    wants_memory seen (left_all seen still kept) (ends_of (Some (Store Init))) (doing_of [] (Some (Store Init))) (Fits (Some (Store Init))) refl (record { read = still.read.count; write = still.write; keep = count })
