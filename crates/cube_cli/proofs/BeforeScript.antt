-- What the ends of `try` say where no schema was taken, so that nothing was done.
use Rattle.std.proofs.Common.{◌≡◌, ℕ, false, List, [], ◌∷◌, ◌++◌, length, take, refl, ap, sym, subst, ◌∙◌, arith, append_assoc, length-append, inr, Option, Some, None, Result, Ok, Err}
use Rattle.std.specs.Prelude.{IfSome, drop}
use Rattle.std.specs.Option.{option_map_or}
use Rattle.std.specs.Result.{result_ok}
use Rattle.std.specs.List.{concat}
use Rattle.std.specs.Io.KnownBytes.{Appends, Consumes, Keeps}
use Rattle.std.proofs.KnownBytes.{Appends-nil, Consumes-nil, Keeps-refl}
use Rattle.text_lines.specs.Input.{INPUT_LIMIT}
use Rattle.text_lines.specs.Pieces.{lf_count}
use Rattle.schema_text.specs.SchemaText.{BadLine, ReadSchema, schema_of}
use Rattle.cube_base.specs.declared.code.Code.{Code}
use Rattle.script_run.specs.Seen.{SeenAll, SinkSeen, SourceSeen, Wrote, WroteNothing}
use Rattle.script_run.specs.Written.{Answered, Gathered, Stopped}
use Rattle.script_run.proofs.Texts.{stopped_gathered}
use Rattle.script_run.proofs.Writing.{wrote-weaker, wrote_nothing}
use Rattle.cube_cli.specs.declared.command.Command.TheVariants.{Try}
use Rattle.cube_cli.specs.declared.schema_lines.HeadStop.{HeadStop}
use Rattle.cube_cli.specs.declared.schema_lines.HeadStop.TheVariants as head_stop
use Rattle.cube_cli.specs.Doing.{refused_schema, try_work}
use Rattle.cube_cli.specs.End.{RefusedHead, SaysOf, StoppedReading, WantedMemory}
use Rattle.cube_cli.specs.RunEnd.{end_of_head}
use Rattle.cube_cli.specs.SchemaLines.{HasHeadCause, TookToEnd, has_end}
use Rattle.cube_cli.specs.Trying.{replies_of, script_lines_in}
use Rattle.cube_cli.specs.Seen.{IsUntouched, NoFault, Took, WasNotCalled}
use Rattle.cube_cli.specs.declared.end.End.TheVariants.{Schema}
use Rattle.text_lines.specs.declared.input.InputStop.TheVariants as input_stop
use Rattle.script_run.specs.Kept.{Commits}
use Rattle.fact_keeper.specs.Batch.{empty_content}
use Rattle.cube_cli.proofs.Keepers.{unkept}
use Rattle.cube_cli.proofs.Known.{of_any, told-weaker}
use Rattle.cube_cli.proofs.Coming.{first_part}
use Rattle.cube_cli.proofs.SchemaTexts.{has_end-nothing}

-- before the line `end` no line of the script ends
no_lines : (input taken more : List ℕ) → input ≡ taken ++ more → has_end taken ≡ false → script_lines_in input taken ≡ 0
no_lines input taken more split none = told (schema_of input) refl
  where
    told : (read : Result ReadSchema BadLine) → schema_of input ≡ read → option_map_or (λ (read : ReadSchema). lf_count (drop read.size taken)) (result_ok read) 0 ≡ 0
    told (Ok read) is = ap lf_count (has_end-nothing input taken more read is split none)
    told (Err bad) is = refl

answered_none : (replies : List (List ℕ)) (done : ℕ) (sink : SinkSeen) → sink.taken_after ≡ sink.taken → done ≡ 0 → Answered replies done sink
answered_none replies done sink same zero = record {
  among = omega (arith, zero);
  bytes = subst (λ after. Appends sink.taken after (concat (take done replies))) (sym same) (subst (λ n. Appends sink.taken sink.taken (concat (take n replies))) (sym zero) (Appends-nil sink.taken));
}

stopped_none : (replies : List (List ℕ)) (sink : SinkSeen) → sink.taken_after ≡ sink.taken → Wrote sink.taken sink.taken_after (Stopped replies 0)
stopped_none replies sink same =
    subst (λ after. Wrote sink.taken after (Stopped replies 0)) (sym same)
    (wrote-weaker sink.taken sink.taken (Gathered replies 0) (Stopped replies 0) (stopped_gathered replies 0) (wrote_nothing replies sink.taken))

-- nothing was written, and no keeper called
module _ (seen : SeenAll) (still : seen.sink.taken_after ≡ seen.sink.taken) (write : seen.sink.faults_after ≡ seen.sink.faults) (uncalled : WasNotCalled seen.keeper) where
  kept : Commits [] seen.keeper.told seen.keeper.told_after
  kept = unkept seen.keeper uncalled.kept

  wrote : WroteNothing seen.sink
  wrote = subst (λ after. Keeps seen.sink.taken after) (sym still) (Keeps-refl seen.sink.taken)

  no_fault : seen.source.faults_after ≡ seen.source.faults → NoFault seen
  no_fault read = record { read = read; write = write; keep = uncalled.count }

  stopped_first : (input bytes more : List ℕ) → input ≡ bytes ++ more → has_end bytes ≡ false → StoppedReading (try_work input empty_content) bytes 0 seen
  stopped_first input bytes more split none = record {
    parts = 0;
    parts_are = sym (no_lines input bytes more split none);
    count = refl;
    awaits = λ some. absurd (cc (some, none));
    answered = answered_none (replies_of input) 0 seen.sink still refl;
    kept = kept;
  }

  -- a read failed
  failed : (left : Option (List ℕ)) (bytes : List ℕ) → Consumes left seen.source.left_after bytes → has_end bytes ≡ false → IfSome left (λ input. StoppedReading (try_work input empty_content) bytes 0 seen)
  failed None bytes consumed none = tt
  failed (Some input) bytes consumed none = behind seen.source.left_after consumed
    where
      behind : (after : Option (List ℕ)) → Consumes (Some input) after bytes → StoppedReading (try_work input empty_content) bytes 0 seen
      behind None consumed = absurd consumed
      behind (Some rest) consumed = stopped_first input bytes rest consumed none

  -- or the input is too long
  passed : (left : Option (List ℕ)) (limit : ℕ) (bytes : List ℕ) (byte : ℕ) → Consumes left seen.source.left_after (bytes ++ byte ∷ []) → length bytes ≡ limit → has_end bytes ≡ false
      → IfSome left (λ input. StoppedReading (try_work input empty_content) (take limit input) 0 seen)
  passed None limit bytes byte consumed size none = tt
  passed (Some input) limit bytes byte consumed size none = behind seen.source.left_after consumed
    where
      behind : (after : Option (List ℕ)) → Consumes (Some input) after (bytes ++ byte ∷ []) → StoppedReading (try_work input empty_content) (take limit input) 0 seen
      behind None consumed = absurd consumed
      behind (Some rest) consumed =
          let split : input ≡ bytes ++ (byte ∷ rest) = consumed ∙ append_assoc bytes (byte ∷ []) rest in
          let first : take limit input ≡ bytes = first_part limit bytes (byte ∷ rest) input size split in
          subst (λ b. StoppedReading (try_work input empty_content) b 0 seen) (sym first) (stopped_first input bytes (byte ∷ rest) split none)

  refused : (line : ℕ) (why : Code) (input : List ℕ) → schema_of input ≡ Err (record { line = line; reason = why }) → TookToEnd seen.source input → RefusedHead (try_work input empty_content) (Schema line why) seen
  refused line why input is near = record { cause = ap refused_schema is; near = near }

  pub says_before : (stop : HeadStop) → HasHeadCause seen.source stop → SaysOf (Some Try) seen (end_of_head stop)
  says_before (head_stop.Bad line why) cause = record {
    may = refl;
    faults = no_fault cause.0;
    takes = cause.1;
    leaves = record { wrote = wrote; kept = uncalled.kept };
    unread = λ is. absurd (cc is);
    unkept = λ is. uncalled.kept;
    counts = tt;
    fits = of_any seen.keeper.told.content _ (λ content. tt);
    means = told-weaker seen.source.left _ (λ input. RefusedHead (try_work input empty_content) (Schema line why) seen) (λ input here. refused line why input here.0 here.1) cause.2;
  }
  says_before (head_stop.Input input_stop.Fault) cause =
      let took = cause.1 in
      record {
        may = refl;
        faults = record { cause = cause.0; write = write; keep = uncalled.count };
        takes = record { input = took.taken; bytes = took.bytes; few = took.says.few };
        leaves = tt;
        unread = λ is. absurd (cc is);
        unkept = λ is. uncalled.kept;
        counts = tt;
        fits = of_any seen.keeper.told.content _ (λ content. tt);
        means = told-weaker seen.source.left (λ input. StoppedReading (try_work input empty_content) took.taken 0 seen) (λ input. Took seen.source (λ taken. StoppedReading (try_work input empty_content) taken 0 seen))
            (λ input here. record { taken = took.taken; bytes = took.bytes; says = here }) (failed seen.source.left took.taken took.bytes took.says.no_end);
      }
  says_before (head_stop.Input input_stop.TooLong) cause =
      let took = cause.1 in
      record {
        may = refl;
        faults = no_fault cause.0;
        takes = record { input = took.taken ++ took.byte ∷ []; bytes = took.bytes; above = omega (arith, took.all, length-append took.taken (took.byte ∷ [])) };
        leaves = tt;
        unread = λ is. absurd (cc is);
        unkept = λ is. uncalled.kept;
        counts = tt;
        fits = of_any seen.keeper.told.content _ (λ content. tt);
        means = passed seen.source.left INPUT_LIMIT took.taken took.byte took.bytes took.all took.no_end;
      }
  says_before (head_stop.Input input_stop.Memory) cause = record {
    may = refl;
    faults = no_fault cause.0;
    takes = cause.1;
    leaves = tt;
    unread = λ is. absurd (cc is);
    unkept = λ is. uncalled.kept;
    counts = tt;
    fits = of_any seen.keeper.told.content _ (λ content. inr tt);
    means = of_any seen.source.left _ (λ input. inr (record { parts = 0; count = refl; wrote = stopped_none (replies_of input) seen.sink still; kept = kept }));
  }
