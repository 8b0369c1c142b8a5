-- What an end says of a run whose input is done at once.
use Rattle.std.proofs.Common.{◌≡◌, ℕ, Bool, true, false, List, refl, arith, inl, inr, Option, Some, None, Result, Ok, Err}
use Rattle.cube_base.specs.declared.code.Code.{Code}
use Rattle.cube_base.specs.declared.fault.SinkError.{SinkError}
use Rattle.cube_base.specs.declared.fault.SinkError.TheVariants as sink_error
use Rattle.fact_keeper.specs.declared.content.Stored.{Stored}
use Rattle.fact_records.specs.declared.fact_seq.BadRecord.{BadRecord as RecordAt}
use Rattle.text_lines.specs.Input.{INPUT_LIMIT, StopsReading, TakesAtMost}
use Rattle.text_lines.specs.declared.input.InputStop.{InputStop}
use Rattle.text_lines.specs.declared.input.InputStop.TheVariants as input_stop
use Rattle.script_run.specs.Seen.{KeepFailed, NoKeepFault, NoReadFault, NoWriteFault, SeenAll}
use Rattle.cube_cli.specs.declared.end.End.{End}
use Rattle.cube_cli.specs.declared.end.End.TheVariants.{BadRecord, Finished, ImportRows, KeepFault, Memory, ReadFault, Schema, TooLong, WriteFault}
use Rattle.cube_cli.specs.Doing.{AtOnce, Doing, OneWork}
use Rattle.cube_cli.specs.End.{CountsAtOnce, DidKeep, Faults, FitsAt, Judged, Leaves, MeansAtOnce, SaysBy, StoppedBefore, StoppedFirst, Takes}
use Rattle.cube_cli.specs.Kinds.{EndKind, IsAmong}
use Rattle.cube_cli.specs.RunEnd.{end_of_stop, end_of_write}
use Rattle.cube_cli.specs.Seen.{DidNothing, Holds, IsUntouched, NoFault, OfContent, OfInput, ReadNothing, ReadWhole}
use Rattle.cube_cli.specs.Steps.{WritesText}
use Rattle.cube_cli.proofs.Known.{IsGiven, IsInput, each_content, each_input, of_content, of_input, told-weaker, took_few, whole}

-- the store fits, and the input was taken, where there is one
pub record GoesOn (reads keeps over : Bool) (Fitting : Stored → Type 0) (content : Stored) (input : List ℕ) (seen : SeenAll) : Type 0 where
  pub content_is : IsGiven over seen.keeper content
  pub fitting : Holds seen.keeper Fitting
  pub input_is : IsInput reads seen.source input
  pub unread : reads ≡ false → ReadNothing seen.source
  pub unkept : keeps ≡ false → IsUntouched seen.keeper
  pub read : NoReadFault seen.source

fits_first : (Fitting : Stored → Type 0) (seen : SeenAll) (done : ℕ) → Holds seen.keeper Fitting → Holds seen.keeper (FitsAt Fitting seen (Memory done))
fits_first Fitting seen done fitting = told-weaker seen.keeper.told.content Fitting (FitsAt Fitting seen (Memory done)) (λ content here. inr here) fitting

module _ (kinds : List EndKind) (reads stores keeps over : Bool) (refused commits : ℕ) (work : List ℕ → Stored → OneWork) (Fitting : Stored → Type 0) (seen : SeenAll) where
  abbrev doing : Doing
  doing = record { reads = reads; stores = stores; keeps = keeps; over = over; works = AtOnce refused commits work }

  module _ (content : Stored) (input : List ℕ) (goes : GoesOn reads keeps over Fitting content input seen) where
    -- it holds of the input and the content
    pub of_both : (P : Stored → List ℕ → Type 0) → P content input → OfContent over seen.keeper (λ content. OfInput reads seen.source (P content))
    of_both P here =
        of_content over seen.keeper content (λ content. OfInput reads seen.source (P content)) goes.content_is (of_input reads seen.source input (P content) goes.input_is here)

    pub few : TakesAtMost INPUT_LIMIT seen.source.left seen.source.left_after
    few = took_few reads seen.source input goes.input_is goes.unread

    pub judged : (refusal : Option End) → (work input content).refusal ≡ refusal → Judged (work input content) reads input refusal seen
    judged refusal is = record { is = is; read = whole reads seen.source input goes.input_is }

    -- what an end says where the store fits and the input was taken
    pub goes_to : (end : End) → IsAmong kinds end → Faults seen end → Takes seen.source end → Leaves seen end → CountsAtOnce refused commits seen end → Holds seen.keeper (FitsAt Fitting seen end)
        → MeansAtOnce (work input content) reads commits input seen end → SaysBy kinds doing Fitting seen end
    goes_to end may faults takes leaves counts fits told = record {
      may = may;
      faults = faults;
      takes = takes;
      leaves = leaves;
      unread = goes.unread;
      unkept = goes.unkept;
      counts = counts;
      fits = fits;
      means = of_both (λ content input. MeansAtOnce (work input content) reads commits input seen end) told;
    }

    -- the text was to be written
    pub written : {T : Type 0} (result : Result T SinkError) → IsAmong kinds (Finished refused) → IsAmong kinds (WriteFault commits) → IsAmong kinds (Memory commits) → NoKeepFault seen.keeper
        → DidKeep (work input content) reads input seen → WritesText (work input content).text seen.sink result → SaysBy kinds doing Fitting seen (end_of_write result refused commits)
    written (Ok ok) finished write memory keep did text =
        goes_to (Finished refused) finished (record { read = goes.read; write = text.0; keep = keep }) few tt refl goes.fitting (did, text.1)
    written (Err sink_error.Failed) finished write memory keep did text =
        goes_to (WriteFault commits) write (record { cause = text.0; read = goes.read; keep = keep }) few tt refl goes.fitting (did, text.1)
    written (Err sink_error.Memory) finished write memory keep did text =
        goes_to (Memory commits) memory (record { read = goes.read; write = text.0; keep = keep }) few tt (inr refl) (fits_first Fitting seen commits goes.fitting) (inr (refl, did, text.1))

  -- it ran out of memory before anything was written or kept
  pub wanted : IsAmong kinds (Memory 0) → NoFault seen → DidNothing seen → TakesAtMost INPUT_LIMIT seen.source.left seen.source.left_after → (reads ≡ false → ReadNothing seen.source) → Holds seen.keeper Fitting
      → SaysBy kinds doing Fitting seen (Memory 0)
  wanted may none nothing took unread fitting =
      let before : StoppedBefore seen 0 = record { none = refl; nothing = nothing } in
      record {
        may = may;
        faults = none;
        takes = took;
        leaves = tt;
        unread = unread;
        unkept = λ is. nothing.kept;
        counts = inl before;
        fits = fits_first Fitting seen 0 fitting;
        means = each_content over seen.keeper _ (λ content. each_input reads seen.source _ (λ input. inl before));
      }

-- a command that takes an input over a store, and may commit
module _ (kinds : List EndKind) (over : Bool) (work : List ℕ → Stored → OneWork) (Fitting : Stored → Type 0) (seen : SeenAll) (keep : NoKeepFault seen.keeper) (write : NoWriteFault seen.sink) (nothing : DidNothing seen) where
  abbrev keeping : Doing
  keeping = record { reads = true; stores = true; keeps = true; over = over; works = AtOnce 0 1 work }

  -- the input was not taken
  before : StoppedBefore seen 0
  before = record { none = refl; nothing = nothing }

  untaken : (end : End) → IsAmong kinds end → Faults seen end → Takes seen.source end → Leaves seen end → CountsAtOnce 0 1 seen end → Holds seen.keeper (FitsAt Fitting seen end)
      → ((input : List ℕ) (content : Stored) → MeansAtOnce (work input content) true 1 input seen end) → SaysBy kinds keeping Fitting seen end
  untaken end may faults takes leaves counts fits told = record {
    may = may;
    faults = faults;
    takes = takes;
    leaves = leaves;
    unread = λ is. absurd (cc is);
    unkept = λ is. nothing.kept;
    counts = counts;
    fits = fits;
    means = each_content over seen.keeper _ (λ content. each_input true seen.source _ (λ input. told input content));
  }

  pub not_taken : (stop : InputStop) → IsAmong kinds (ReadFault 0) → IsAmong kinds (TooLong 0) → IsAmong kinds (Memory 0) → Holds seen.keeper Fitting
      → StopsReading INPUT_LIMIT seen.source.left seen.source.left_after seen.source.faults seen.source.faults_after stop → SaysBy kinds keeping Fitting seen (end_of_stop stop)
  not_taken input_stop.Fault failed long wants fitting stops =
      untaken (ReadFault 0) failed (record { cause = stops.1; write = write; keep = keep }) stops.0 tt before fitting (λ input content. tt)
  not_taken input_stop.TooLong failed long wants fitting stops =
      untaken (TooLong 0) long (record { read = stops.1; write = write; keep = keep }) stops.0 tt before fitting (λ input content. tt)
  not_taken input_stop.Memory failed long wants fitting stops =
      wanted kinds true true true over 0 1 work Fitting seen wants (record { read = stops.1; write = write; keep = keep }) nothing stops.0 (λ is. absurd (cc is)) fitting

  -- it was, and is refused
  module _ (content : Stored) (input : List ℕ) (goes : GoesOn true true over Fitting content input seen) where
    none_failed : NoFault seen
    none_failed = record { read = goes.read; write = write; keep = keep }

    took : TakesAtMost INPUT_LIMIT seen.source.left seen.source.left_after
    took = few kinds true true true over 0 1 work Fitting seen content input goes

    refused : (end : End) → IsAmong kinds end → Faults seen end → Leaves seen end → CountsAtOnce 0 1 seen end → Holds seen.keeper (FitsAt Fitting seen end)
        → MeansAtOnce (work input content) true 1 input seen end → Takes seen.source end → SaysBy kinds keeping Fitting seen end
    refused end may faults leaves counts fits told takes = goes_to kinds true true true over 0 1 work Fitting seen content input goes end may faults takes leaves counts fits told

    is_judged : (refusal : Option End) → (work input content).refusal ≡ refusal → Judged (work input content) true input refusal seen
    is_judged refusal is = judged kinds true true true over 0 1 work Fitting seen content input goes refusal is

    pub bad_schema : (line : ℕ) (why : Code) → IsAmong kinds (Schema line why) → (work input content).refusal ≡ Some (Schema line why) → SaysBy kinds keeping Fitting seen (Schema line why)
    bad_schema line why may is = refused (Schema line why) may none_failed nothing tt goes.fitting (is_judged (Some (Schema line why)) is) took

    pub bad_record : (bad : RecordAt) → IsAmong kinds (BadRecord bad) → (work input content).refusal ≡ Some (BadRecord bad) → SaysBy kinds keeping Fitting seen (BadRecord bad)
    bad_record bad may is = refused (BadRecord bad) may none_failed nothing tt goes.fitting (is_judged (Some (BadRecord bad)) is) took

    pub many_rows : (would : ℕ) → IsAmong kinds (ImportRows would) → (work input content).refusal ≡ Some (ImportRows would) → SaysBy kinds keeping Fitting seen (ImportRows would)
    many_rows would may is = refused (ImportRows would) may none_failed nothing tt goes.fitting (is_judged (Some (ImportRows would)) is) took

    -- or it ran out of memory
    pub wants : IsAmong kinds (Memory 0) → SaysBy kinds keeping Fitting seen (Memory 0)
    wants may = wanted kinds true true true over 0 1 work Fitting seen may none_failed nothing took goes.unread goes.fitting

-- or the keeper failed at what is to be kept of it
module _ (kinds : List EndKind) (over : Bool) (work : List ℕ → Stored → OneWork) (Fitting : Stored → Type 0) (seen : SeenAll) (failed : KeepFailed seen.keeper) (write : NoWriteFault seen.sink) (nothing : DidNothing seen)
    (content : Stored) (input : List ℕ) (goes : GoesOn true true over Fitting content input seen) where
  pub keep_failed : IsAmong kinds (KeepFault 0) → (work input content).refusal ≡ None → SaysBy kinds (record { reads = true; stores = true; keeps = true; over = over; works = AtOnce 0 1 work }) Fitting seen (KeepFault 0)
  keep_failed may is =
      goes_to kinds true true true over 0 1 work Fitting seen content input goes (KeepFault 0) may (record { cause = failed; read = goes.read; write = write })
      (few kinds true true true over 0 1 work Fitting seen content input goes) tt (record { none = refl; nothing = nothing }) (fits_first Fitting seen 0 goes.fitting)
      (inr (judged kinds true true true over 0 1 work Fitting seen content input goes None is))
