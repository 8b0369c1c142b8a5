-- Where a leader stands between two lines.
use Rattle.std.proofs.Common.{◌≡◌, ℕ, ◌+◌, ◌≤◌, true, false, List, [], ◌∷◌, ◌++◌, length, Option, refl, sym, ap, ◌∙◌, subst, append-nil, inl, inr, arith, length-append}
use Rattle.std.specs.Prelude.{⊤}
use Rattle.std.specs.List.{concat}
use Rattle.std.specs.Io.KnownBytes.{Appends}
use Rattle.std.proofs.KnownBytes.{Appends-trans}
use Rattle.cube_base.specs.Outside.{Rose, SinkTold}
use Rattle.cube_base.specs.declared.fault.SinkError.TheVariants as sink_error
use Rattle.cube_core.specs.Cube.{CubeValue}
use Rattle.fact_keeper.specs.Keeper.{KeeperTold}
use Rattle.fact_keeper.specs.declared.content.Batch.{Batch}
use Rattle.schema_text.specs.Schema.{SchemaValue, weigh_of}
use Rattle.schema_text.specs.declared.word.PolicyWord.{PolicyWord}
use Rattle.script_run.specs.declared.break_off.BreakOff.{BreakOff}
use Rattle.script_run.specs.declared.break_off.BreakOff.TheVariants.{Write, SinkMemory, Memory, Keep}
use Rattle.script_run.specs.Kept.{Commits, HasKept, KeptAt, batches_at, done_at, is_keep}
use Rattle.script_run.specs.Progress.{BreaksOff}
use Rattle.script_run.specs.Run.{State, Step, refusals_in, schema_at, step}
use Rattle.script_run.specs.Seen.{KeeperSeen, SinkSeen, Told, seen_since, told_of}
use Rattle.script_run.proofs.Batches.{batches-here, batches-push, commits-append, commits_none}
use Rattle.script_run.proofs.Keeping.{kept_at-answered, kept_at-fault, kept_at-gave_up, kept_at-more}
use Rattle.script_run.proofs.Runs.{refused-push, state-push}
use Rattle.script_run.proofs.Steps.{step-here}
use Rattle.script_run.proofs.Texts.{concat-append}
use Rattle.script_run.proofs.Writing.{breaks_off-more, breaks_off_keep, breaks_off_whole}
use Rattle.feed_run.specs.declared.lead.LeadRun.{LeadRun}
use Rattle.feed_run.specs.Leading.{Leader, base_text, batches_by, in_parts, leader_outcome, text_at, texts_of}
use Rattle.feed_run.specs.LeadTurn.{BreaksAt, IsBegun, KeptAll, KeptNothing, Leads, SentNothing, SentPart, state_in, weigh_in}
use Rattle.feed_run.proofs.LeadSteps.{few_batches_at, few_refusals}
use Rattle.feed_run.proofs.LeadStops.{part_broke}
use Rattle.feed_run.proofs.LeadTexts.{length-texts, text-here, texts-push}

-- what the sink and the keeper tell at one time
pub record Outlets : Type 0 where
  pub taken : Option (List ℕ)
  pub write_faults : ℕ
  pub told : Told
  pub keep_faults : ℕ

abbrev pub outlets_of : {K Q : Type 0} → (K → SinkTold) → (Q → KeeperTold) → K → Q → Outlets
outlets_of sink_tells keeper_tells sink keeper = record {
  taken = (sink_tells sink).taken;
  write_faults = (sink_tells sink).faults;
  told = told_of keeper_tells keeper;
  keep_faults = (keeper_tells keeper).faults;
}

-- what is seen of them from one time to another
abbrev pub sink_from : Outlets → Outlets → SinkSeen
sink_from start now = record { taken = start.taken; taken_after = now.taken; faults = start.write_faults; faults_after = now.write_faults }

abbrev pub keeper_from : Outlets → Outlets → KeeperSeen
keeper_from start now = record { told = start.told; told_after = now.told; faults = start.keep_faults; faults_after = now.keep_faults }

-- on what a leader begins whose run this is
abbrev pub leader_of : LeadRun → Leader
leader_of run = record { weigh = weigh_in run; schema = run.cube.schema; first = state_in run }

-- These lines are done, and their texts written. None of the sink and the keeper had a fault.
pub record HasLed (leader : Leader) (lines : List (List ℕ)) (start now : Outlets) (run : LeadRun) : Type 0 where
  pub weighs : leader.weigh ≡ weigh_in run
  pub schema_now : run.cube.schema ≡ schema_at leader.schema (leader_outcome leader lines).state
  pub facts : run.cube.facts ≡ (leader_outcome leader lines).state.facts
  pub told : run.told ≡ length (batches_by leader lines)
  pub done : run.done ≡ length lines
  pub refused : run.refused ≡ (leader_outcome leader lines).refused
  pub fewer_told : run.told ≤ run.done
  pub fewer_refused : run.refused ≤ run.done
  pub wrote : Appends start.taken now.taken (concat (texts_of leader lines))
  pub write : now.write_faults ≡ start.write_faults
  pub kept : Commits (batches_by leader lines) start.told now.told
  pub keep : now.keep_faults ≡ start.keep_faults

-- the base is written, and no line done
pub led_begun : (run : LeadRun) (start now : Outlets) → IsBegun run → Appends start.taken now.taken (base_text run.cube.schema (state_in run)) → now.write_faults ≡ start.write_faults → now.told ≡ start.told → now.keep_faults ≡ start.keep_faults
    → HasLed (leader_of run) [] start now run
led_begun run start now begun bytes write told keep = record {
  weighs = refl;
  schema_now = refl;
  facts = refl;
  told = begun.told;
  done = begun.done;
  refused = begun.refused;
  fewer_told = omega (arith, begun.told, begun.done);
  fewer_refused = omega (arith, begun.refused, begun.done);
  wrote = subst (Appends start.taken now.taken) (sym (append-nil (base_text run.cube.schema (state_in run)))) bytes;
  write = write;
  kept = commits_none start.told now.told told;
  keep = keep;
}

-- the line at which a leader breaks off, where a write or the keeper makes it: that behind all but the last of these
abbrev pub IsAtLast : List (List ℕ) → BreakOff → Type 0
IsAtLast lines (Write line) = line ≡ length lines
IsAtLast lines (SinkMemory line) = ⊤
IsAtLast lines (Memory done) = ⊤
IsAtLast lines (Keep done) = done + 1 ≡ length lines

-- It broke off among these lines.
pub record LedBroke (leader : Leader) (lines : List (List ℕ)) (start now : Outlets) (off : BreakOff) : Type 0 where
  pub broke : BreaksOff (texts_of leader lines) (sink_from start now) (in_parts off)
  pub kept : KeptAt leader.weigh leader.schema leader.first lines start.told now.told off
  pub last : IsAtLast lines off
  pub cause : is_keep off ≡ true → Rose start.keep_faults now.keep_faults
  pub other_cause : is_keep off ≡ false → now.keep_faults ≡ start.keep_faults

module _ (leader : Leader) (lines : List (List ℕ)) (line : List ℕ) (start now after : Outlets) (old : LeadRun) (has : HasLed leader lines start now old) where
  -- what the line does behind those that are done
  abbrev here : State
  here = (leader_outcome leader lines).state

  abbrev committed : List Batch
  committed = batches_at leader.weigh leader.schema here line

  abbrev text : List ℕ
  text = text_at leader.weigh leader.schema here (length (batches_by leader lines)) line

  abbrev all : List (List ℕ)
  all = lines ++ line ∷ []

  step_is : step (weigh_in old) old.cube.schema (state_in old) line ≡ step leader.weigh leader.schema here line
  step_is = ap (λ w. step w old.cube.schema (state_in old) line) (sym has.weighs) ∙ step-here leader.weigh leader.schema old.cube.schema old.cube.facts here line has.schema_now has.facts

  batches_are : batches_at (weigh_in old) old.cube.schema (state_in old) line ≡ committed
  batches_are = ap (λ w. batches_at w old.cube.schema (state_in old) line) (sym has.weighs) ∙ batches-here leader.weigh leader.schema old.cube.schema old.cube.facts here line has.schema_now has.facts

  text_is : text_at (weigh_in old) old.cube.schema (state_in old) old.told line ≡ text
  text_is =
      ap (λ w. text_at w old.cube.schema (state_in old) old.told line) (sym has.weighs)
      ∙ text-here leader.weigh leader.schema old.cube.schema old.cube.facts here old.told line has.schema_now has.facts
      ∙ ap (λ n. text_at leader.weigh leader.schema here n line) has.told

  many : length all ≡ length lines + 1
  many = length-append lines (line ∷ [])

  -- the line is done, and its text written
  pub led-push : (new : LeadRun) → Leads (step (weigh_in old) old.cube.schema (state_in old) line) (batches_at (weigh_in old) old.cube.schema (state_in old) line) (text_at (weigh_in old) old.cube.schema (state_in old) old.told line) old new (sink_from now after) (keeper_from now after)
      → HasLed leader all start after new
  led-push new leads =
      let said = step (weigh_in old) old.cube.schema (state_in old) line in
      let state_now : said.state ≡ (leader_outcome leader all).state = ap (λ (s : Step). s.state) step_is ∙ sym (state-push leader.weigh leader.schema leader.first lines line) in
      let push = batches-push leader.weigh leader.schema leader.first lines line in
      let texts = texts_of leader lines in
      let whole : concat texts ++ text ≡ concat (texts_of leader all) = sym (ap concat (texts-push leader lines line) ∙ concat-append texts (text ∷ []) ∙ ap (λ l. concat texts ++ l) (append-nil text)) in
      record {
        weighs = has.weighs ∙ ap (λ (c : CubeValue PolicyWord). weigh_of c.policy) (sym leads.cube);
        schema_now = ap (λ (c : CubeValue PolicyWord). c.schema) leads.cube ∙ ap (λ (s : SchemaValue). schema_at s said.state) has.schema_now ∙ ap (schema_at leader.schema) state_now;
        facts = ap (λ (c : CubeValue PolicyWord). c.facts) leads.cube ∙ ap (λ (s : State). s.facts) state_now;
        told = omega (arith, leads.told, has.told, ap length batches_are, ap length push, length-append (batches_by leader lines) committed);
        done = omega (arith, leads.done, has.done, many);
        refused = omega (arith, leads.refused, has.refused, ap (λ (s : Step). refusals_in s.reply) step_is, refused-push leader.weigh leader.schema leader.first lines line);
        fewer_told = omega (arith, leads.told, leads.done, has.fewer_told, few_batches_at (weigh_in old) old.cube.schema (state_in old) line);
        fewer_refused = omega (arith, leads.refused, leads.done, has.fewer_refused, few_refusals said.reply);
        wrote = subst (Appends start.taken after.taken) whole (Appends-trans start.taken now.taken after.taken (concat texts) text has.wrote (subst (Appends now.taken after.taken) text_is leads.wrote));
        write = leads.write ∙ has.write;
        kept = rw push (commits-append (batches_by leader lines) committed start.told now.told after.told has.kept (subst (λ l. Commits l now.told after.told) batches_are leads.kept.commits));
        keep = leads.kept.keep ∙ has.keep;
      }

  -- or it broke off at the line
  has_kept : HasKept leader.weigh leader.schema leader.first lines start.told now.told []
  has_kept = record { commits = has.kept; even = λ n behind among. absurd (omega (arith, behind, among)) }

  texts_more : (sink : SinkSeen) (off : BreakOff) → BreaksOff (texts_of leader lines) sink off → BreaksOff (texts_of leader all) sink off
  texts_more sink off broke = rw (texts-push leader lines line) (breaks_off-more (texts_of leader lines) (text ∷ []) sink off broke)

  since_start : (off : BreakOff) → BreaksOff (texts_of leader all) (record { taken = start.taken; taken_after = after.taken; faults = now.write_faults; faults_after = after.write_faults }) off → BreaksOff (texts_of leader all) (sink_from start after) off
  since_start off broke = subst (λ n. BreaksOff (texts_of leader all) (record { taken = start.taken; taken_after = after.taken; faults = n; faults_after = after.write_faults }) off) has.write broke

  count_texts : length (texts_of leader lines) ≡ old.done + 1
  count_texts = omega (arith, length-texts leader lines, has.done)

  here_kept : Commits (batches_at (weigh_in old) old.cube.schema (state_in old) line) now.told after.told → Commits committed now.told after.told
  here_kept commits = subst (λ l. Commits l now.told after.told) batches_are commits

  kept_too : (off : BreakOff) → Commits (batches_at (weigh_in old) old.cube.schema (state_in old) line) now.told after.told → (done_at off ≡ old.done + 1) → is_keep off ≡ false → KeptAt leader.weigh leader.schema leader.first all start.told after.told off
  kept_too off commits is no_keep =
      kept_at-answered leader.weigh leader.schema leader.first lines line start.told now.told after.told [] old.done off has_kept (here_kept commits) (inl refl) has.done
      (record { behind = omega (arith, is); among = omega (arith, is); no_keep = no_keep })

  unsent : after.taken ≡ now.taken → Appends start.taken after.taken (concat (texts_of leader lines))
  unsent same = subst (λ t. Appends start.taken t (concat (texts_of leader lines))) (sym same) has.wrote

  memory_before : (done : ℕ) → SentNothing (sink_from now after) → done ≡ old.done → KeptNothing (keeper_from now after) → LedBroke leader all start after (Memory done)
  memory_before done nothing is kept =
      let sink = sink_from now after in
      let broke : BreaksOff (texts_of leader lines ++ []) (seen_since sink start.taken) (Memory (done + 1)) =
      breaks_off_whole (texts_of leader lines) [] start.taken sink (done + 1) (unsent nothing.taken) (omega arith) (omega (arith, is, count_texts)) nothing.write in
      record {
        broke = since_start (Memory (done + 1)) (texts_more (seen_since sink start.taken) (Memory (done + 1)) (subst (λ l. BreaksOff l (seen_since sink start.taken) (Memory (done + 1))) (append-nil (texts_of leader lines)) broke));
        kept = subst (λ told. KeptAt leader.weigh leader.schema leader.first all start.told told (Memory done)) (sym kept.told)
            (kept_at-more leader.weigh leader.schema leader.first lines (line ∷ []) start.told now.told (Memory done)
            (kept_at-gave_up leader.weigh leader.schema leader.first lines start.told now.told [] done (Memory done) has_kept (is ∙ has.done) (inl refl)));
        last = tt;
        cause = λ told. absurd (cc told);
        other_cause = λ _. kept.keep ∙ has.keep;
      }

  memory_behind : (done : ℕ) → SentNothing (sink_from now after) → done ≡ old.done + 1 → KeptAll (batches_at (weigh_in old) old.cube.schema (state_in old) line) (keeper_from now after) → LedBroke leader all start after (Memory done)
  memory_behind done nothing is kept = record {
    broke = since_start (Memory (done + 1)) (rw (texts-push leader lines line) (breaks_off_whole (texts_of leader lines) (text ∷ []) start.taken (sink_from now after) (done + 1) (unsent nothing.taken) (omega arith) (omega (arith, is, count_texts)) nothing.write));
    kept = kept_too (Memory done) kept.commits is refl;
    last = tt;
    cause = λ told. absurd (cc told);
    other_cause = λ _. kept.keep ∙ has.keep;
  }

  pub led-broke : (off : BreakOff) → BreaksAt (text_at (weigh_in old) old.cube.schema (state_in old) old.told line) (batches_at (weigh_in old) old.cube.schema (state_in old) line) old.done (sink_from now after) (keeper_from now after) off → LedBroke leader all start after off
  led-broke (Write n) (sent, rose, kept) = record {
    broke = since_start (Write (n + 1)) (rw (texts-push leader lines line) (part_broke (texts_of leader lines) text start.taken (sink_from now after) sink_error.Failed n (old.done + 1) has.wrote (subst (λ t. SentPart t (sink_from now after) n (old.done + 1)) text_is sent) rose count_texts));
    kept = kept_too (Write n) kept.commits sent.here refl;
    last = omega (arith, sent.here, has.done, many);
    cause = λ told. absurd (cc told);
    other_cause = λ _. kept.keep ∙ has.keep;
  }
  led-broke (SinkMemory n) (sent, same, kept) = record {
    broke = since_start (SinkMemory (n + 1)) (rw (texts-push leader lines line) (part_broke (texts_of leader lines) text start.taken (sink_from now after) sink_error.Memory n (old.done + 1) has.wrote (subst (λ t. SentPart t (sink_from now after) n (old.done + 1)) text_is sent) same count_texts));
    kept = kept_too (SinkMemory n) kept.commits sent.here refl;
    last = tt;
    cause = λ told. absurd (cc told);
    other_cause = λ _. kept.keep ∙ has.keep;
  }
  led-broke (Memory done) (nothing, inl (is, kept)) = memory_before done nothing is kept
  led-broke (Memory done) (nothing, inr (is, kept)) = memory_behind done nothing is kept
  led-broke (Keep done) (is, nothing, kept, one) = record {
    broke = since_start (Keep (done + 1)) (texts_more _ (Keep (done + 1)) (breaks_off_keep (texts_of leader lines) start.taken (sink_from now after) (done + 1) (unsent nothing.taken) (omega (arith, is, count_texts)) nothing.write));
    kept = subst (λ told. KeptAt leader.weigh leader.schema leader.first all start.told told (Keep done)) (sym kept.told)
        (kept_at-fault leader.weigh leader.schema leader.first lines line start.told now.told [] done (Keep done) has_kept (ap length (sym batches_are) ∙ one) refl (is ∙ has.done) (inl refl));
    last = omega (arith, is, has.done, many);
    cause = λ _. subst (λ n. Rose n after.keep_faults) has.keep kept.failed;
    other_cause = λ told. absurd (cc told);
  }
