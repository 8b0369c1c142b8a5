-- What lines do whose replies are all written behind them.
use Rattle.std.proofs.Common.{◌≡◌, ℕ, ◌+◌, ◌≤◌, true, Result, Ok, Err, List, [], ◌++◌, length, Option, refl, sym, ap, ◌∙◌, subst, arith}
use Rattle.std.specs.Prelude.{IfErr, IfOk, OnOk}
use Rattle.std.specs.List.{concat}
use Rattle.std.specs.Io.KnownBytes.{Appends}
use Rattle.std.proofs.lemmas.Result.{IfErr-weaker, IfOk-weaker, on_ok_weaker}
use Rattle.cube_model.specs.declared.statistic.CellStat.{CellStat}
use Rattle.schema_text.specs.Schema.{SchemaValue}
use Rattle.script_run.specs.declared.break_off.BreakOff.{BreakOff}
use Rattle.script_run.specs.declared.break_off.BreakOff.TheVariants.{Write, SinkMemory, Memory, Keep}
use Rattle.script_run.specs.Kept.{HasKept, IsBehind, IsGatheredStop, KeptAt, is_keep}
use Rattle.script_run.specs.Run.{State, run}
use Rattle.script_run.specs.Progress.{BreaksOff, Done, HasDone, HasGathered, Working}
use Rattle.script_run.specs.Seen.{KeeperSeen, NoWriteFault, SinkSeen, Told, seen_since}
use Rattle.script_run.specs.Stream.{DoesLines}
use Rattle.script_run.specs.StreamTurn.{EndsLines}
use Rattle.script_run.proofs.Doing.{count_done, has_done-sent, on_ok_both, on_ok_too}
use Rattle.script_run.proofs.Keeping.{has_kept-fewer, kept_at-gathered, told_or_not}

-- what the sink tells from the start of a call to the end of another
abbrev pub seen_both : SinkSeen → SinkSeen → SinkSeen
seen_both first later = record { taken = first.taken; taken_after = later.taken_after; faults = first.faults; faults_after = later.faults_after }

-- the writing of the gathered replies
pub record Sends {P T : Type 0} (old new : Working P) (sink : SinkSeen) (result : Result T BreakOff) : Type 0 where
  pub all : (replies : List (List ℕ)) (start : Option (List ℕ)) → HasGathered replies start sink.taken old.gathered → OnOk result (Appends start sink.taken_after (concat replies))
  pub empty : OnOk result (new ≡ record old { gathered = [] })
  pub count : OnOk result (NoWriteFault sink)
  pub policy : new.cube.policy ≡ old.cube.policy
  pub keeps : new.keeps ≡ old.keeps
  pub broken : (replies : List (List ℕ)) (start : Option (List ℕ)) → HasGathered replies start sink.taken old.gathered → old.done ≡ length replies → IfErr result (BreaksOff replies (seen_since sink start))
  pub stop : IfErr result (IsGatheredStop old.done (length old.gathered))

-- the same where the refused lines are told
pub record Finishes {P : Type 0} (weigh : P → CellStat → ℕ) (old : Working P) (sink : SinkSeen) (result : Result ℕ BreakOff) : Type 0 where
  pub done : (schema : SchemaValue) (first : State) (lines : List (List ℕ)) (start : Option (List ℕ)) → HasDone (weigh old.cube.policy) schema first lines start sink.taken old
      → IfOk result (Done (run (weigh old.cube.policy) schema first lines) (seen_since sink start))
  pub broken : (schema : SchemaValue) (first : State) (lines : List (List ℕ)) (start : Option (List ℕ)) → HasDone (weigh old.cube.policy) schema first lines start sink.taken old
      → IfErr result (BreaksOff (run (weigh old.cube.policy) schema first lines).replies (seen_since sink start))
  pub stop : IfErr result (IsGatheredStop old.done (length old.gathered))

-- a stop within the replies that are gathered then lies behind those that were before
is_behind-gathered : (old_done old_gathered done gathered : ℕ) (off : BreakOff) → old_done + gathered ≤ done + old_gathered → IsGatheredStop done gathered off → IsBehind old_done old_gathered off
is_behind-gathered old_done old_gathered done gathered (Write line) ahead stop = omega (arith, stop.behind)
is_behind-gathered old_done old_gathered done gathered (SinkMemory line) ahead stop = tt
is_behind-gathered old_done old_gathered done gathered (Memory some) ahead stop = tt
is_behind-gathered old_done old_gathered done gathered (Keep some) ahead stop = omega (arith, stop.behind)

-- a call that broke off among the last lines
pub ends_lines-broke : {P T : Type 0} (weigh : P → CellStat → ℕ) (more : List (List ℕ)) (old new : Working P) (sink : SinkSeen) (keeper : KeeperSeen) (off : BreakOff) → DoesLines {T = T} weigh more old new sink keeper (Err off)
    → EndsLines weigh more old sink keeper (Err off)
ends_lines-broke weigh more old new sink keeper off does = record {
  done = λ schema first lines start has. tt;
  broken = does.broken;
  kept = λ schema first lines start before keeps has kept. tt;
  stopped = does.stopped;
  behind = does.behind;
  keep = tt;
  cause = does.cause;
  other_cause = does.other_cause;
}

module _ {P T : Type 0} (weigh : P → CellStat → ℕ) (more : List (List ℕ)) (old between : Working P) (first_sink later_sink : SinkSeen) (keeper : KeeperSeen) (said : T) (meets : later_sink.taken ≡ first_sink.taken_after) (counts : later_sink.faults ≡ first_sink.faults_after)
    (does : DoesLines weigh more old between first_sink keeper (Ok said)) where
  no_fault : later_sink.faults ≡ first_sink.faults
  no_fault = counts ∙ does.write

  -- the lines are done where the sink goes on
  done_there : (schema : SchemaValue) (first : State) (lines : List (List ℕ)) (start : Option (List ℕ)) → HasDone (weigh old.cube.policy) schema first lines start first_sink.taken old
      → HasDone (weigh old.cube.policy) schema first (lines ++ more) start later_sink.taken between
  done_there schema first lines start has =
      subst (λ t. HasDone (weigh old.cube.policy) schema first (lines ++ more) start t between) (sym meets) (does.done schema first lines start has)

  -- what is seen from the first call on
  broken_both : (replies : List (List ℕ)) (start : Option (List ℕ)) (off : BreakOff) → BreaksOff replies (seen_since later_sink start) off → BreaksOff replies (seen_since (seen_both first_sink later_sink) start) off
  broken_both replies start off here = subst (λ n. BreaksOff replies (record { taken = start; taken_after = later_sink.taken_after; faults = n; faults_after = later_sink.faults_after }) off) no_fault here

  stopped_both : (result_off : BreakOff) (schema : SchemaValue) (first : State) (lines : List (List ℕ)) (start : Option (List ℕ)) (before : Told) → old.keeps ≡ true → HasDone (weigh old.cube.policy) schema first lines start first_sink.taken old
      → HasKept (weigh old.cube.policy) schema first lines before keeper.told old.gathered → IsGatheredStop between.done (length between.gathered) result_off → KeptAt (weigh old.cube.policy) schema first (lines ++ more) before keeper.told_after result_off
  stopped_both off schema first lines start before keeps has kept stop =
      kept_at-gathered (weigh old.cube.policy) schema first (lines ++ more) before keeper.told_after between.gathered between.done (length between.gathered) off
      (does.kept schema first lines start before keeps has kept) (does.done schema first lines start has).done refl stop

  pub does_lines-sent : {U : Type 0} (new : Working P) (result : Result U BreakOff) → Sends between new later_sink result → DoesLines weigh more old new (seen_both first_sink later_sink) keeper result
  does_lines-sent new result sends = record {
    policy = sends.policy ∙ does.policy;
    keeps = sends.keeps ∙ does.keeps;
    done = λ schema first lines start has.
        let there = done_there schema first lines start has in
        on_ok_both result (λ empty bytes. has_done-sent (weigh old.cube.policy) schema first (lines ++ more) start later_sink.taken later_sink.taken_after between new there empty bytes) sends.empty (sends.all _ start there.gathered);
    broken = λ schema first lines start has.
        let there = done_there schema first lines start has in
        let replies = (run (weigh old.cube.policy) schema first (lines ++ more)).replies in
        IfErr-weaker result _ _ (broken_both replies start) (sends.broken replies start there.gathered (count_done (weigh old.cube.policy) schema first (lines ++ more) start _ between there));
    kept = λ schema first lines start before keeps has kept.
        on_ok_weaker result (λ empty. has_kept-fewer (weigh old.cube.policy) schema first (lines ++ more) before keeper.told_after between.gathered new.gathered (does.kept schema first lines start before keeps has kept) (omega (arith, ap (λ w. length w.gathered) empty))) sends.empty;
    stopped = λ schema first lines start before keeps has kept. IfErr-weaker result _ _ (λ off stop. stopped_both off schema first lines start before keeps has kept stop) sends.stop;
    count = on_ok_weaker result (λ empty. ap (λ w. w.done) empty ∙ does.count) sends.empty;
    ahead = on_ok_weaker result (λ empty. omega (arith, ap (λ w. w.done) empty, ap (λ w. length w.gathered) empty, does.count)) sends.empty;
    behind = IfErr-weaker result _ _ (λ off stop. is_behind-gathered old.done (length old.gathered) between.done (length between.gathered) off does.ahead stop) sends.stop;
    write = on_ok_weaker result (λ same. same ∙ no_fault) sends.count;
    keep = on_ok_too result does.keep;
    cause = IfErr-weaker result _ _ (λ off stop. told_or_not (is_keep off) stop.no_keep) sends.stop;
    other_cause = λ keeps. IfErr-weaker result _ _ (λ off stop not_told. does.keep) sends.stop;
  }

  pub ends_lines-finished : (result : Result ℕ BreakOff) → Finishes weigh between later_sink result → EndsLines weigh more old (seen_both first_sink later_sink) keeper result
  ends_lines-finished result finishes = record {
    done = λ schema first lines start has.
        let there = done_there schema first lines start has in
        let done = subst (λ p. HasDone (weigh p) schema first (lines ++ more) start later_sink.taken between → IfOk result (Done (run (weigh p) schema first (lines ++ more)) (seen_since later_sink start))) does.policy
        (finishes.done schema first (lines ++ more) start) there in
        IfOk-weaker result _ _ (λ refused whole. record { bytes = whole.bytes; count = whole.count; no_fault = whole.no_fault ∙ no_fault }) done;
    broken = λ schema first lines start has.
        let there = done_there schema first lines start has in
        let broken = subst (λ p. HasDone (weigh p) schema first (lines ++ more) start later_sink.taken between → IfErr result (BreaksOff (run (weigh p) schema first (lines ++ more)).replies (seen_since later_sink start))) does.policy
        (finishes.broken schema first (lines ++ more) start) there in
        IfErr-weaker result _ _ (broken_both _ start) broken;
    kept = λ schema first lines start before keeps has kept. on_ok_too result (does.kept schema first lines start before keeps has kept).commits;
    stopped = λ schema first lines start before keeps has kept. IfErr-weaker result _ _ (λ off stop. stopped_both off schema first lines start before keeps has kept stop) finishes.stop;
    behind = IfErr-weaker result _ _ (λ off stop. is_behind-gathered old.done (length old.gathered) between.done (length between.gathered) off does.ahead stop) finishes.stop;
    keep = on_ok_too result does.keep;
    cause = IfErr-weaker result _ _ (λ off stop. told_or_not (is_keep off) stop.no_keep) finishes.stop;
    other_cause = λ keeps. IfErr-weaker result _ _ (λ off stop not_told. does.keep) finishes.stop;
  }
