-- A line is done and answered, or the run breaks off: where it was answered, before it was done, or at the keeper.
use Rattle.std.proofs.Common.{◌≡◌, ◌+◌, ◌≤◌, [], length, refl, sym, ap, ◌∙◌, subst, arith}
use Rattle.std.specs.Prelude.{◌⊎◌, IfErr}
use Rattle.std.proofs.lemmas.Result.{IfErr-weaker, on_ok_weaker}
use Rattle.schema_text.specs.Schema.{weigh_of}
use Rattle.schema_text.specs.declared.word.PolicyWord.{PolicyWord}
use Rattle.script_run.specs.declared.break_off.BreakOff.TheVariants.{Memory, Keep}
use Rattle.script_run.specs.Kept.{IsGatheredStop, is_keep}
use Rattle.script_run.specs.Run.{run, state_of}
use Rattle.script_run.specs.Progress.{BreaksOff, HasGathered}
use Rattle.script_run.specs.Seen.{seen_since, sink_seen}
use Rattle.script_run.proofs.Batches.{none_before}
use Rattle.script_run.proofs.Doing.{breaks_off-before, breaks_off-no_later, count_done, line_done, on_ok_both, replies_here}
use Rattle.script_run.proofs.Keeping.{gave_up-no_keep, tells_fault, told_or_not}
use Rattle.script_run.proofs.KeptLines.{line_failed, line_kept, line_not_done, line_stopped}
use Rattle.script_run.proofs.script_run.ScriptRun.do_read.Goals as goal

pub returns-in-Ok-clause-done : goal.returns-in-Ok-clause-done
returns-in-Ok-clause-done g c = λ schema first lines start line done is_read.
    let weigh = weigh_of c.args.self.now.cube.policy in
    let taken = (g.K.Sink.tells c.args.out.now).taken in
    let here = c.in-Ok.ensures.state in
    let gathered = subst (HasGathered (run weigh schema first lines).replies start taken) (sym (ap (λ w. w.gathered) here)) done.gathered in
    on_ok_both c.answer-answered.result
    (λ more answered. line_done {P = PolicyWord} weigh schema first lines line start taken _ c.args.self.now c.do_on_cube.new.self c.answer-answered.new.self c.args.read.now c.in-Ok.reply done is_read c.in-Ok.ensures.reply here more answered)
    (c.answer-answered.ensures.gathered (run weigh schema first lines).replies start gathered) c.answer-answered.ensures.answered

pub returns-in-Ok-clause-broken : goal.returns-in-Ok-clause-broken
returns-in-Ok-clause-broken g c = λ schema first lines start line done is_read.
    let weigh = weigh_of c.args.self.now.cube.policy in
    let taken = (g.K.Sink.tells c.args.out.now).taken in
    let sink = sink_seen g.K.Sink.tells c.args.out.now c.answer-answered.new.out in
    let here = c.in-Ok.ensures.state in
    let gathered = subst (HasGathered (run weigh schema first lines).replies start taken) (sym (ap (λ w. w.gathered) here)) done.gathered in
    let all = replies_here {P = PolicyWord} weigh schema first lines line start taken c.args.self.now c.args.read.now c.do_on_cube.new.self.cube c.in-Ok.reply done is_read c.in-Ok.ensures.reply (ap (λ w. w.cube) here) in
    subst (λ replies. IfErr c.answer-answered.result (BreaksOff replies (seen_since sink start))) (sym all)
    (c.answer-answered.ensures.broken (run weigh schema first lines).replies start gathered (ap (λ w. w.done) here ∙ count_done weigh schema first lines start taken _ done))

pub returns-in-Ok-clause-kept : goal.returns-in-Ok-clause-kept
returns-in-Ok-clause-kept g c = λ schema first lines start line before ready done is_read kept.
    let weigh = weigh_of c.args.self.now.cube.policy in
    let size : length c.do_on_cube.new.self.gathered ≡ length c.args.self.now.gathered = ap (λ w. length w.gathered) c.in-Ok.ensures.state in
    on_ok_weaker c.answer-answered.result
    (λ (le : length c.answer-answered.new.self.gathered ≤ length c.do_on_cube.new.self.gathered + 1). line_kept {P = PolicyWord} weigh schema first lines line start _ before c.args.self.now c.args.read.now _ _ c.answer-answered.new.self.gathered ready done is_read kept c.in-Ok.ensures.kept (omega arith))
    c.answer-answered.ensures.one_more

pub returns-in-Ok-clause-stopped : goal.returns-in-Ok-clause-stopped
returns-in-Ok-clause-stopped g c = λ schema first lines start line before ready done is_read kept.
    let weigh = weigh_of c.args.self.now.cube.policy in
    let stop = subst (λ w. IfErr c.answer-answered.result (IsGatheredStop (w.done + 1) (length w.gathered + 1))) c.in-Ok.ensures.state c.answer-answered.ensures.stop in
    IfErr-weaker c.answer-answered.result (IsGatheredStop (c.args.self.now.done + 1) (length c.args.self.now.gathered + 1)) _
    (λ off here. line_stopped {P = PolicyWord} weigh schema first lines line start _ before c.args.self.now c.args.read.now _ _ off ready done is_read kept c.in-Ok.ensures.kept here) stop

pub returns-in-Ok-clause-cause : goal.returns-in-Ok-clause-cause
returns-in-Ok-clause-cause g c = IfErr-weaker c.answer-answered.result _ _ (λ off stop. told_or_not (is_keep off) stop.no_keep) c.answer-answered.ensures.stop

pub returns-in-Err-KeepFault-clause-broken : goal.returns-in-Err-KeepFault-clause-broken
returns-in-Err-KeepFault-clause-broken g c = λ schema first lines start line done is_read.
    let weigh = weigh_of c.args.self.now.cube.policy in
    let taken = (g.K.Sink.tells c.args.out.now).taken in
    let here = c.in-Err-KeepFault.ensures.same in
    let gathered = subst (HasGathered (run weigh schema first lines).replies start taken) (sym (ap (λ w. w.gathered) here)) done.gathered in
    breaks_off-before weigh schema first lines line _ c.keep_fault.result
    (c.keep_fault.ensures.broken (run weigh schema first lines).replies start gathered (ap (λ w. w.done) here ∙ count_done weigh schema first lines start taken _ done))

pub returns-in-Err-KeepFault-clause-stopped : goal.returns-in-Err-KeepFault-clause-stopped
returns-in-Err-KeepFault-clause-stopped g c = λ schema first lines start line before ready done is_read kept.
    let weigh = weigh_of c.args.self.now.cube.policy in
    let fault = rw c.in-Err-KeepFault.field-0-is at c.in-Err-KeepFault.ensures.stop in
    let stop = subst (λ w. (c.keep_fault.result ≡ Keep w.done) ⊎ IsGatheredStop w.done (length w.gathered) c.keep_fault.result) c.in-Err-KeepFault.ensures.same c.keep_fault.ensures.stop in
    line_failed {P = PolicyWord} weigh schema first lines line start _ before c.args.self.now c.args.read.now _ _ c.keep_fault.result ready done is_read kept c.in-Err-KeepFault.ensures.same_kept fault.1 stop

pub returns-in-Err-KeepFault-clause-cause : goal.returns-in-Err-KeepFault-clause-cause
returns-in-Err-KeepFault-clause-cause g c = λ told.
    let fault = rw c.in-Err-KeepFault.field-0-is at c.in-Err-KeepFault.ensures.stop in
    fault.0

pub returns-in-Err-KeepFault-clause-other_cause : goal.returns-in-Err-KeepFault-clause-other_cause
returns-in-Err-KeepFault-clause-other_cause g c = λ ready not_told.
    let weigh = weigh_of c.args.self.now.cube.policy in
    let fault = rw c.in-Err-KeepFault.field-0-is at c.in-Err-KeepFault.ensures.stop in
    let same = c.in-Err-KeepFault.ensures.same in
    let none = ap (λ w. w.gathered) same ∙ none_before weigh c.args.self.now.cube.schema (state_of c.args.self.now.cube) c.args.read.now c.args.self.now.gathered ready fault.1 in
    told_or_not (is_keep c.keep_fault.result) not_told (ap is_keep (tells_fault _ _ c.keep_fault.result none c.keep_fault.ensures.stop))

pub returns-in-Err-Memory-clause-broken : goal.returns-in-Err-Memory-clause-broken
returns-in-Err-Memory-clause-broken g c = λ schema first lines start line done is_read.
    let weigh = weigh_of c.args.self.now.cube.policy in
    let taken = (g.K.Sink.tells c.args.out.now).taken in
    let here = c.in-Err-Memory.ensures.same in
    let gathered = subst (HasGathered (run weigh schema first lines).replies start taken) (sym (ap (λ w. w.gathered) here)) done.gathered in
    breaks_off-no_later weigh schema first lines line _ c.give_up.result
    (c.give_up.ensures.broken (run weigh schema first lines).replies [] start gathered (ap (λ w. w.done) here ∙ count_done weigh schema first lines start taken _ done) (omega arith) refl)

pub returns-in-Err-Memory-clause-stopped : goal.returns-in-Err-Memory-clause-stopped
returns-in-Err-Memory-clause-stopped g c = λ schema first lines start line before ready done is_read kept.
    let weigh = weigh_of c.args.self.now.cube.policy in
    let stop = subst (λ w. (c.give_up.result ≡ Memory (w.done + 0)) ⊎ IsGatheredStop w.done (length w.gathered) c.give_up.result) c.in-Err-Memory.ensures.same c.give_up.ensures.stop in
    line_not_done {P = PolicyWord} weigh schema first lines line start _ before _ _ c.args.self.now (c.args.self.now.done + 0) c.give_up.result done kept c.in-Err-Memory.ensures.same_kept (omega arith) stop

pub returns-in-Err-Memory-clause-cause : goal.returns-in-Err-Memory-clause-cause
returns-in-Err-Memory-clause-cause g c = told_or_not _ (gave_up-no_keep _ _ _ _ c.give_up.ensures.stop)
