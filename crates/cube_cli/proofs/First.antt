-- What an end says of a run that stopped before anything was read, written or kept.
use Rattle.std.proofs.Common.{◌≡◌, ℕ, Bool, List, refl, inl}
use Rattle.std.specs.Prelude.{◌≢◌}
use Rattle.fact_keeper.specs.Batch.{empty_content}
use Rattle.fact_keeper.specs.declared.content.Stored.{Stored}
use Rattle.text_lines.specs.Input.{INPUT_LIMIT, TakesAtMost}
use Rattle.script_run.specs.Seen.{NoWriteFault, SeenAll, WroteNothing}
use Rattle.store_audit.specs.declared.finding.Finding.{Finding}
use Rattle.cube_cli.specs.declared.end.End.{End}
use Rattle.cube_cli.specs.declared.end.End.TheVariants.{BadStore, HasCube, KeepFault, Memory, NoCube, Usage}
use Rattle.cube_cli.specs.Doing.{AsNeeded, AtOnce, ByLines, Doing, Works}
use Rattle.cube_cli.specs.End.{Counts, Faults, FitsAt, Leaves, Means, SaysBy, StoppedBefore, StoppedFirst, Takes}
use Rattle.cube_cli.specs.Kinds.{EndKind, IsAmong}
use Rattle.cube_cli.specs.Seen.{Holds, IsUntouched, LeftAll, NoFault, OfContent, OfInput, OnlyKeepFailed, WasNotRead}
use Rattle.cube_cli.specs.Store.{Finds}
use Rattle.cube_cli.proofs.Known.{each_content, each_input, of_any, took_nothing}

-- nothing was read or written, and no fault of these was met
pub record IsStill (seen : SeenAll) : Type 0 where
  pub read : WasNotRead seen.source
  pub wrote : WroteNothing seen.sink
  pub write : NoWriteFault seen.sink

-- nor was anything kept
pub left_all : (seen : SeenAll) → IsStill seen → IsUntouched seen.keeper → LeftAll seen
left_all seen still kept = record { nothing = record { wrote = still.wrote; kept = kept }; read = still.read.read }

module _ (seen : SeenAll) where
  -- what is said of an input and of a content, and of the number of the end
  none_told : (works : Works) (reads : Bool) (input : List ℕ) (content : Stored) → Means works reads input content seen NoCube
  none_told (ByLines work) reads input content = tt
  none_told (AtOnce refused commits work) reads input content = tt
  none_told (AsNeeded work) reads input content = (tt, tt)

  has_told : (works : Works) (reads : Bool) (input : List ℕ) (content : Stored) → Means works reads input content seen HasCube
  has_told (ByLines work) reads input content = tt
  has_told (AtOnce refused commits work) reads input content = tt
  has_told (AsNeeded work) reads input content = (tt, tt)

  bad_told : (found : Finding) (works : Works) (reads : Bool) (input : List ℕ) (content : Stored) → Means works reads input content seen (BadStore found)
  bad_told found (ByLines work) reads input content = tt
  bad_told found (AtOnce refused commits work) reads input content = tt
  bad_told found (AsNeeded work) reads input content = (tt, tt)

  usage_told : (works : Works) (reads : Bool) (input : List ℕ) (content : Stored) → Means works reads input content seen Usage
  usage_told (ByLines work) reads input content = tt
  usage_told (AtOnce refused commits work) reads input content = tt
  usage_told (AsNeeded work) reads input content = (tt, tt)

  no_count : (works : Works) → Counts works seen NoCube
  no_count (ByLines work) = tt
  no_count (AtOnce refused commits work) = tt
  no_count (AsNeeded work) = tt

  has_count : (works : Works) → Counts works seen HasCube
  has_count (ByLines work) = tt
  has_count (AtOnce refused commits work) = tt
  has_count (AsNeeded work) = tt

  bad_count : (found : Finding) (works : Works) → Counts works seen (BadStore found)
  bad_count found (ByLines work) = tt
  bad_count found (AtOnce refused commits work) = tt
  bad_count found (AsNeeded work) = tt

  usage_count : (works : Works) → Counts works seen Usage
  usage_count (ByLines work) = tt
  usage_count (AtOnce refused commits work) = tt
  usage_count (AsNeeded work) = tt

module _ (seen : SeenAll) (left : LeftAll seen) where
  pub stopped : StoppedFirst seen 0
  stopped = record { none = refl; left = left }

  before : StoppedBefore seen 0
  before = record { none = refl; nothing = left.nothing }

  keep_told : (works : Works) (reads : Bool) (input : List ℕ) (content : Stored) → Means works reads input content seen (KeepFault 0)
  keep_told (ByLines work) reads input content = inl stopped
  keep_told (AtOnce refused commits work) reads input content = inl stopped
  keep_told (AsNeeded work) reads input content = (before, inl stopped)

  wants_told : (works : Works) (reads : Bool) (input : List ℕ) (content : Stored) → Means works reads input content seen (Memory 0)
  wants_told (ByLines work) reads input content = inl stopped
  wants_told (AtOnce refused commits work) reads input content = inl before
  wants_told (AsNeeded work) reads input content = (inl before, inl before)

  keep_count : (works : Works) → Counts works seen (KeepFault 0)
  keep_count (ByLines work) = tt
  keep_count (AtOnce refused commits work) = before
  keep_count (AsNeeded work) = before

  wants_count : (works : Works) → Counts works seen (Memory 0)
  wants_count (ByLines work) = tt
  wants_count (AtOnce refused commits work) = inl before
  wants_count (AsNeeded work) = inl before

  few : TakesAtMost INPUT_LIMIT seen.source.left seen.source.left_after
  few = took_nothing INPUT_LIMIT seen.source.left seen.source.left_after left.read

  module _ (kinds : List EndKind) (doing : Doing) (Fitting : Stored → Type 0) where
    -- it holds of each input and each content
    of_each : (P : Stored → List ℕ → Type 0) → ((input : List ℕ) (content : Stored) → P content input) → OfContent doing.over seen.keeper (λ content. OfInput doing.reads seen.source (P content))
    of_each P each =
        each_content doing.over seen.keeper (λ content. OfInput doing.reads seen.source (P content))
        (λ content. each_input doing.reads seen.source (P content) (λ input. each input content))

    -- what each of these ends says of what was left
    first : (end : End) → IsAmong kinds end → Faults seen end → Takes seen.source end → Leaves seen end → Counts doing.works seen end → Holds seen.keeper (FitsAt Fitting seen end)
        → ((input : List ℕ) (content : Stored) → Means doing.works doing.reads input content seen end) → SaysBy kinds doing Fitting seen end
    first end may faults takes leaves counts fits told = record {
      may = may;
      faults = faults;
      takes = takes;
      leaves = leaves;
      unread = λ is. left.read;
      unkept = λ is. left.nothing.kept;
      counts = counts;
      fits = fits;
      means = of_each (λ content input. Means doing.works doing.reads input content seen end) told;
    }

    pub no_cube : IsAmong kinds NoCube → NoFault seen → Holds seen.keeper (λ content. content ≡ empty_content) → SaysBy kinds doing Fitting seen NoCube
    no_cube may none empty = first NoCube may none few left (no_count seen doing.works) empty (none_told seen doing.works doing.reads)

    pub has_cube : IsAmong kinds HasCube → NoFault seen → Holds seen.keeper (λ content. content ≢ empty_content) → SaysBy kinds doing Fitting seen HasCube
    has_cube may none some = first HasCube may none few left (has_count seen doing.works) some (has_told seen doing.works doing.reads)

    pub bad_store : (found : Finding) → IsAmong kinds (BadStore found) → NoFault seen → Holds seen.keeper (λ content. (content ≢ empty_content) × Finds content found) → SaysBy kinds doing Fitting seen (BadStore found)
    bad_store found may none finds = first (BadStore found) may none few left (bad_count seen found doing.works) finds (bad_told seen found doing.works doing.reads)

    pub usage : IsAmong kinds Usage → NoFault seen → Holds seen.keeper Fitting → SaysBy kinds doing Fitting seen Usage
    usage may none fitting = first Usage may none few left (usage_count seen doing.works) fitting (usage_told seen doing.works doing.reads)

    pub keep_fault : IsAmong kinds (KeepFault 0) → OnlyKeepFailed seen → SaysBy kinds doing Fitting seen (KeepFault 0)
    keep_fault may failed =
        first (KeepFault 0) may failed few tt (keep_count doing.works) (of_any seen.keeper.told.content _ (λ content. inl stopped)) (keep_told doing.works doing.reads)

    pub wants_memory : IsAmong kinds (Memory 0) → NoFault seen → SaysBy kinds doing Fitting seen (Memory 0)
    wants_memory may none =
        first (Memory 0) may none few tt (wants_count doing.works) (of_any seen.keeper.told.content _ (λ content. inl stopped)) (wants_told doing.works doing.reads)
