-- What calls do that do lines one after the other.
use Rattle.std.proofs.Common.{◌≡◌, ℕ, ◌+◌, ◌≤◌, Result, Ok, Err, List, ◌++◌, length, ◌∙◌, subst, append_assoc, arith, length-append}
use Rattle.std.specs.Prelude.{IfErr, OnOk}
use Rattle.std.proofs.lemmas.Result.{IfErr-weaker, on_ok_weaker}
use Rattle.cube_base.specs.Outside.{Rose, SinkTold}
use Rattle.cube_model.specs.declared.statistic.CellStat.{CellStat}
use Rattle.fact_keeper.specs.Keeper.{KeeperTold}
use Rattle.schema_text.specs.Schema.{SchemaValue}
use Rattle.script_run.specs.declared.break_off.BreakOff.{BreakOff}
use Rattle.script_run.specs.declared.break_off.BreakOff.TheVariants.{Write, SinkMemory, Memory, Keep}
use Rattle.script_run.specs.Kept.{HasKept, IsBehind, KeptAt}
use Rattle.script_run.specs.Progress.{BreaksOff, HasDone, Working}
use Rattle.script_run.specs.Run.{State, run}
use Rattle.script_run.specs.Seen.{KeeperSeen, SinkSeen, keeper_seen, seen_since, sink_seen, told_of}
use Rattle.script_run.specs.Stream.{DoesLines}
use Rattle.script_run.proofs.Keeping.{kept_at-more}
use Rattle.script_run.proofs.Runs.{replies-append}
use Rattle.script_run.proofs.Writing.{breaks_off-more}

-- what lies behind the lines whose replies are written did so earlier, when no more were
is_behind-before : (done count earlier fewer : ℕ) (off : BreakOff) → earlier + count ≤ done + fewer → IsBehind done count off → IsBehind earlier fewer off
is_behind-before done count earlier fewer (Write line) le behind = omega arith
is_behind-before done count earlier fewer (SinkMemory line) le behind = tt
is_behind-before done count earlier fewer (Memory some) le behind = tt
is_behind-before done count earlier fewer (Keep some) le behind = omega arith

-- what breaks off among the replies to some lines does among those to more
breaks_off-lines : (weigh : CellStat → ℕ) (schema : SchemaValue) (first : State) (lines more : List (List ℕ)) (sink : SinkSeen) (off : BreakOff)
    → BreaksOff (run weigh schema first lines).replies sink off → BreaksOff (run weigh schema first (lines ++ more)).replies sink off
breaks_off-lines weigh schema first lines more sink off here =
    rw (replies-append weigh schema first lines more) (breaks_off-more (run weigh schema first lines).replies _ sink off here)

-- where it breaks off within the first of some lines, it does within all
pub does_lines-cut : {P T : Type 0} (weigh : P → CellStat → ℕ) (some more : List (List ℕ)) (old new : Working P) (sink : SinkSeen) (keeper : KeeperSeen) (off : BreakOff)
    → DoesLines {T = T} weigh some old new sink keeper (Err off) → DoesLines {T = T} weigh (some ++ more) old new sink keeper (Err off)
does_lines-cut weigh some more old new sink keeper off does = record {
  policy = does.policy;
  keeps = does.keeps;
  done = λ schema first lines start has. tt;
  broken = λ schema first lines start has.
      subst (λ all. BreaksOff (run (weigh old.cube.policy) schema first all).replies (seen_since sink start) off) (append_assoc lines some more)
      (breaks_off-lines (weigh old.cube.policy) schema first (lines ++ some) more (seen_since sink start) off (does.broken schema first lines start has));
  kept = λ schema first lines start before keeps has kept. tt;
  stopped = λ schema first lines start before keeps has kept.
      subst (λ all. KeptAt (weigh old.cube.policy) schema first all before keeper.told_after off) (append_assoc lines some more)
      (kept_at-more (weigh old.cube.policy) schema first (lines ++ some) more before keeper.told_after off (does.stopped schema first lines start before keeps has kept));
  count = tt;
  ahead = tt;
  behind = does.behind;
  write = tt;
  keep = tt;
  cause = does.cause;
  other_cause = does.other_cause;
}

-- what is done where a call goes well does not depend on what it answers
pub does_lines-ok : {P T U : Type 0} (weigh : P → CellStat → ℕ) (more : List (List ℕ)) (old new : Working P) (sink : SinkSeen) (keeper : KeeperSeen) (value : T) (other : U)
    → DoesLines weigh more old new sink keeper (Ok value) → DoesLines weigh more old new sink keeper (Ok other)
does_lines-ok weigh more old new sink keeper value other does = record {
  policy = does.policy;
  keeps = does.keeps;
  done = does.done;
  broken = λ schema first lines start has. tt;
  kept = does.kept;
  stopped = λ schema first lines start before keeps has kept. tt;
  count = does.count;
  ahead = does.ahead;
  behind = tt;
  write = does.write;
  keep = does.keep;
  cause = tt;
  other_cause = λ keeps. tt;
}

module _ {P K Q T : Type 0} (weigh : P → CellStat → ℕ) (tells : K → SinkTold) (keeps_told : Q → KeeperTold) where
  -- lines are done, and then more
  pub does_lines-append : {Before : Type 0} (value : Before) (some more : List (List ℕ)) (old between new : Working P) (out out_between out_after : K) (keeper keeper_between keeper_after : Q) (result : Result T BreakOff)
      → DoesLines weigh some old between (sink_seen tells out out_between) (keeper_seen keeps_told keeper keeper_between) (Ok value)
      → DoesLines weigh more between new (sink_seen tells out_between out_after) (keeper_seen keeps_told keeper_between keeper_after) result
      → DoesLines weigh (some ++ more) old new (sink_seen tells out out_after) (keeper_seen keeps_told keeper keeper_after) result
  does_lines-append value some more old between new out out_between out_after keeper keeper_between keeper_after result one two = record {
    policy = two.policy ∙ one.policy;
    keeps = two.keeps ∙ one.keeps;
    done = λ schema first lines start has.
        subst (λ all. OnOk result (HasDone (weigh old.cube.policy) schema first all start (tells out_after).taken new)) (append_assoc lines some more)
        (subst (λ p. HasDone (weigh p) schema first (lines ++ some) start (tells out_between).taken between → OnOk result (HasDone (weigh p) schema first ((lines ++ some) ++ more) start (tells out_after).taken new))
        one.policy (two.done schema first (lines ++ some) start) (one.done schema first lines start has));
    broken = λ schema first lines start has.
        subst (λ n. IfErr result (BreaksOff (run (weigh old.cube.policy) schema first (lines ++ (some ++ more))).replies (record { taken = start; taken_after = (tells out_after).taken; faults = n; faults_after = (tells out_after).faults }))) one.write
        (subst (λ all. IfErr result (BreaksOff (run (weigh old.cube.policy) schema first all).replies (seen_since (sink_seen tells out_between out_after) start))) (append_assoc lines some more)
        (subst (λ p. HasDone (weigh p) schema first (lines ++ some) start (tells out_between).taken between
        → IfErr result (BreaksOff (run (weigh p) schema first ((lines ++ some) ++ more)).replies (seen_since (sink_seen tells out_between out_after) start)))
        one.policy (two.broken schema first (lines ++ some) start) (one.done schema first lines start has)));
    kept = λ schema first lines start before keeps has kept.
        subst (λ all. OnOk result (HasKept (weigh old.cube.policy) schema first all before (told_of keeps_told keeper_after) new.gathered)) (append_assoc lines some more)
        (subst (λ p. HasDone (weigh p) schema first (lines ++ some) start (tells out_between).taken between → HasKept (weigh p) schema first (lines ++ some) before (told_of keeps_told keeper_between) between.gathered
        → OnOk result (HasKept (weigh p) schema first ((lines ++ some) ++ more) before (told_of keeps_told keeper_after) new.gathered))
        one.policy (two.kept schema first (lines ++ some) start before (one.keeps ∙ keeps)) (one.done schema first lines start has) (one.kept schema first lines start before keeps has kept));
    stopped = λ schema first lines start before keeps has kept.
        subst (λ all. IfErr result (KeptAt (weigh old.cube.policy) schema first all before (told_of keeps_told keeper_after))) (append_assoc lines some more)
        (subst (λ p. HasDone (weigh p) schema first (lines ++ some) start (tells out_between).taken between → HasKept (weigh p) schema first (lines ++ some) before (told_of keeps_told keeper_between) between.gathered
        → IfErr result (KeptAt (weigh p) schema first ((lines ++ some) ++ more) before (told_of keeps_told keeper_after)))
        one.policy (two.stopped schema first (lines ++ some) start before (one.keeps ∙ keeps)) (one.done schema first lines start has) (one.kept schema first lines start before keeps has kept));
    count = on_ok_weaker result (λ (later : new.done ≡ between.done + length more). omega (arith, one.count, length-append some more)) two.count;
    ahead = on_ok_weaker result (λ (later : between.done + length new.gathered ≤ new.done + length between.gathered). omega (arith, one.ahead)) two.ahead;
    behind = IfErr-weaker result (IsBehind between.done (length between.gathered)) (IsBehind old.done (length old.gathered))
        (λ off behind. is_behind-before between.done (length between.gathered) old.done (length old.gathered) off one.ahead behind) two.behind;
    write = on_ok_weaker result (λ (same : (tells out_after).faults ≡ (tells out_between).faults). same ∙ one.write) two.write;
    keep = on_ok_weaker result (λ (same : (keeps_told keeper_after).faults ≡ (keeps_told keeper_between).faults). same ∙ one.keep) two.keep;
    cause = IfErr-weaker result _ _ (λ off cause told. subst (λ n. Rose n ((keeps_told keeper_after).faults)) one.keep (cause told)) two.cause;
    other_cause = λ keeps. IfErr-weaker result _ _ (λ off cause not_told. cause not_told ∙ one.keep) (two.other_cause (one.keeps ∙ keeps));
  }
