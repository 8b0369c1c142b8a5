-- What the ends of `ask` say, which does the line of its words over the content of a store and takes no input.
use Rattle.std.proofs.Common.{◌≡◌, ℕ, ◌+◌, List, [], ◌∷◌, length, take, true, false, refl, sym, ap, ◌∙◌, subst, inr, Some, Result, Ok, Err}
use Rattle.std.specs.Prelude.{IfErr, IfOk, OnOk}
use Rattle.std.specs.List.{concat}
use Rattle.std.specs.Io.KnownBytes.{Appends}
use Rattle.fact_keeper.specs.declared.content.Stored.{Stored}
use Rattle.text_lines.specs.Input.{INPUT_LIMIT, TakesAtMost}
use Rattle.script_run.specs.declared.break_off.BreakOff.{BreakOff}
use Rattle.script_run.specs.declared.break_off.BreakOff.TheVariants as break_off
use Rattle.script_run.specs.Kept.{Commits, KeptAt, is_keep}
use Rattle.script_run.specs.Progress.{BreaksOff, Done}
use Rattle.script_run.specs.Seen.{KeepFailed, NoKeepFault, SeenAll, Wrote}
use Rattle.script_run.specs.Stream.{Ground, batches_on, outcome_on}
use Rattle.script_run.specs.Written.{Answered, Broken, Gathered, Stopped}
use Rattle.script_run.proofs.Texts.{stopped_gathered}
use Rattle.script_run.proofs.Writing.{wrote-weaker}
use Rattle.cube_cli.specs.declared.command.Command.TheVariants.{Store}
use Rattle.cube_cli.specs.declared.command.StoreCommand.TheVariants.{Ask}
use Rattle.cube_cli.specs.declared.end.End.{End}
use Rattle.cube_cli.specs.declared.end.End.TheVariants.{Finished, KeepFault, Memory, WriteFault}
use Rattle.cube_cli.specs.Doing.{LineWork, ask_work, ends_of}
use Rattle.cube_cli.specs.End.{Faults, FitsAt, Leaves, MeansByLines, SaysAsked, Takes, WantedMemory}
use Rattle.cube_cli.specs.Kinds.{IsAmong}
use Rattle.cube_cli.specs.RunEnd.{end_of_line}
use Rattle.cube_cli.specs.Seen.{Holds, WasNotRead}
use Rattle.cube_cli.specs.Store.{IsSoundContent, IsSoundOver}
use Rattle.cube_cli.proofs.Auditing.{sound_content}
use Rattle.cube_cli.proofs.Known.{of_given, took_nothing}
use Rattle.cube_cli.proofs.Running.{IsOver, batches-over, count-over, replies-over}

module _ (line : List ℕ) (content : Stored) (ground : Ground) (over : IsOver content ground) (seen : SeenAll) (unread : WasNotRead seen.source)
    (given : Holds seen.keeper (λ kept. content ≡ kept)) (sound : IsSoundOver ground.schema content) where
  abbrev lines : List (List ℕ)
  lines = line ∷ []

  abbrev work : LineWork
  work = ask_work line [] content

  abbrev replies : List (List ℕ)
  replies = (outcome_on ground lines).replies

  took : (most : ℕ) → TakesAtMost most seen.source.left seen.source.left_after
  took most = took_nothing most seen.source.left seen.source.left_after unread.read

  is_sound : IsSoundContent content
  is_sound = sound_content content ground.schema over.schema_is sound

  says_end : (end : End) → IsAmong (ends_of (Some (Store Ask))) end → Faults seen end → Takes seen.source end → Leaves seen end → FitsAt IsSoundContent seen end content
      → MeansByLines work false [] seen end → SaysAsked line (Some (Store Ask)) seen end
  says_end end may faults takes leaves here told = record {
    may = may;
    faults = faults;
    takes = takes;
    leaves = leaves;
    unread = λ is. unread.read;
    unkept = λ is. absurd (cc is);
    counts = tt;
    fits = of_given seen.keeper.told.content content (FitsAt IsSoundContent seen end) given here;
    means = of_given seen.keeper.told.content content (λ content. MeansByLines (ask_work line [] content) false [] seen end) given told;
  }

  kept-first : (done : ℕ) → Commits (batches_on ground (take done lines)) seen.keeper.told seen.keeper.told_after → Commits (work.kept done) seen.keeper.told seen.keeper.told_after
  kept-first done commits = subst (λ bs. Commits bs seen.keeper.told seen.keeper.told_after) (sym (batches-over content ground over (take done lines))) commits

  told_done : (refused : ℕ) → Done (outcome_on ground lines) seen.sink refused → Commits (batches_on ground lines) seen.keeper.told seen.keeper.told_after → NoKeepFault seen.keeper
      → SaysAsked line (Some (Store Ask)) seen (Finished refused)
  told_done refused done commits keep =
      says_end (Finished refused) refl (record { read = unread.count; write = done.no_fault; keep = keep }) (took INPUT_LIMIT) tt is_sound
      (record {
        accepted = refl;
        read = λ reads. absurd (cc reads);
        count = done.count ∙ sym (count-over content ground over lines);
        wrote = subst (λ replies. Appends seen.sink.taken seen.sink.taken_after (concat replies)) (sym (replies-over content ground over lines)) done.bytes;
        kept = subst (λ bs. Commits bs seen.keeper.told seen.keeper.told_after) (sym (batches-over content ground over lines)) commits;
      })

  wanted : (done : ℕ) (P : List ℕ → Type 0) → Wrote seen.sink.taken seen.sink.taken_after P → ((bytes : List ℕ) → P bytes → Stopped replies done bytes)
      → Commits (batches_on ground (take done lines)) seen.keeper.told seen.keeper.told_after → WantedMemory work done seen
  wanted done P written weaker commits = record {
    parts = done;
    count = refl;
    wrote = subst (λ replies. Wrote seen.sink.taken seen.sink.taken_after (Stopped replies done)) (sym (replies-over content ground over lines)) (wrote-weaker seen.sink.taken seen.sink.taken_after P (Stopped replies done) weaker written);
    kept = kept-first done commits;
  }

  told_broke : (off : BreakOff) → BreaksOff replies seen.sink off → KeptAt ground.weigh ground.schema ground.first lines seen.keeper.told seen.keeper.told_after off
      → (is_keep off ≡ true → KeepFailed seen.keeper) → (is_keep off ≡ false → NoKeepFault seen.keeper) → SaysAsked line (Some (Store Ask)) seen (end_of_line (Err off))
  told_broke (break_off.Write at) broke kept failed none =
      says_end (WriteFault at) refl (record { cause = broke.0; read = unread.count; keep = none refl }) (took INPUT_LIMIT) tt is_sound
      (record {
        parts = at;
        line = at;
        parts_are = refl;
        count = refl;
        wrote = subst (λ replies. Wrote seen.sink.taken seen.sink.taken_after (Broken replies at)) (sym (replies-over content ground over lines)) broke.1;
        kept = kept-first at kept.commits;
        near = took _;
      })
  told_broke (break_off.SinkMemory at) broke kept failed none =
      says_end (Memory at) refl (record { read = unread.count; write = broke.0; keep = none refl }) (took INPUT_LIMIT) tt (inr is_sound)
      (inr (wanted at (Broken replies at) broke.1 (λ bytes b. b.stopped) kept.commits))
  told_broke (break_off.Memory done) broke kept failed none =
      says_end (Memory done) refl (record { read = unread.count; write = broke.0; keep = none refl }) (took INPUT_LIMIT) tt (inr is_sound)
      (inr (wanted done (Gathered replies done) broke.1 (stopped_gathered replies done) kept.commits))
  told_broke (break_off.Keep done) broke kept failed none =
      says_end (KeepFault done) refl (record { cause = failed refl; read = unread.count; write = broke.0 }) (took INPUT_LIMIT) tt (inr is_sound)
      (inr (record {
        parts = done;
        line = done + 1;
        parts_are = refl;
        count = refl;
        answered = subst (λ replies. Answered replies done seen.sink) (sym (replies-over content ground over lines)) broke.1;
        kept = kept-first done kept.commits;
        next = ap length (batches-over content ground over (take (done + 1) lines)) ∙ kept.next ∙ ap (λ n. n + 1) (sym (ap length (batches-over content ground over (take done lines))));
        near = took _;
      }))

  pub says_asked : (result : Result ℕ BreakOff) → IfOk result (Done (outcome_on ground lines) seen.sink) → IfErr result (BreaksOff replies seen.sink) → OnOk result (Commits (batches_on ground lines) seen.keeper.told seen.keeper.told_after)
      → IfErr result (KeptAt ground.weigh ground.schema ground.first lines seen.keeper.told seen.keeper.told_after) → OnOk result (NoKeepFault seen.keeper) → IfErr result (λ off. is_keep off ≡ true → KeepFailed seen.keeper)
      → IfErr result (λ off. is_keep off ≡ false → NoKeepFault seen.keeper) → SaysAsked line (Some (Store Ask)) seen (end_of_line result)
  says_asked (Ok refused) done broke commits kept count failed none = told_done refused done commits count
  says_asked (Err off) done broke commits kept count failed none = told_broke off broke kept failed none
