-- What a line does is what its being made ready for and its doing do, or it breaks off before.
use Rattle.std.proofs.Common.{◌+◌, ◌++◌, ◌∷◌, [], refl, ap, sym, ◌∙◌, subst, inr, arith}
use Rattle.std.specs.Prelude.{IfErr, OnOk}
use Rattle.script_text.specs.LineOf.{IsLineFaultOf}
use Rattle.script_text.specs.ScriptLine.{line_of}
use Rattle.schema_text.specs.Schema.{weigh_of}
use Rattle.schema_text.specs.declared.word.PolicyWord.{PolicyWord}
use Rattle.script_run.specs.Kept.{HasKept, KeptAt}
use Rattle.script_run.specs.Run.{run}
use Rattle.script_run.specs.Progress.{BreaksOff, HasDone}
use Rattle.script_run.specs.Seen.{seen_since, sink_seen, told_of}
use Rattle.script_run.proofs.Doing.{breaks_off-before, breaks_off-no_later, count_done}
use Rattle.script_run.proofs.Keeping.{gave_up-no_keep, has_kept-fewer, told_or_not}
use Rattle.script_run.proofs.KeptLines.{line_not_done}
use Rattle.script_run.proofs.script_run.ScriptRun.do_line.Goals as goal

pub returns-in-Err-Memory-clause-broken : goal.returns-in-Err-Memory-clause-broken
returns-in-Err-Memory-clause-broken g c = λ schema first lines start done.
    let weigh = weigh_of c.args.self.now.cube.policy in
    let count = count_done weigh schema first lines start _ _ done in
    breaks_off-no_later weigh schema first lines c.args.line.now _ c.give_up.result (c.give_up.ensures.broken (run weigh schema first lines).replies [] start done.gathered count (omega arith) refl)

pub returns-in-Err-Memory-clause-stopped : goal.returns-in-Err-Memory-clause-stopped
returns-in-Err-Memory-clause-stopped g c = λ schema first lines start before keeps done kept.
    line_not_done _ schema first lines c.args.line.now start _ before _ _ c.args.self.now (c.args.self.now.done + 0) c.give_up.result done kept refl (omega arith) c.give_up.ensures.stop

pub returns-in-Err-Memory-clause-cause : goal.returns-in-Err-Memory-clause-cause
returns-in-Err-Memory-clause-cause g c = told_or_not _ (gave_up-no_keep _ _ _ _ c.give_up.ensures.stop)

pub returns-in-Err-Code-clause-kept : goal.returns-in-Err-Code-clause-kept
returns-in-Err-Code-clause-kept g c = λ schema first lines start before keeps done kept.
    c.refuse.ensures.kept schema first lines start c.args.line.now before _ done (ap (λ s. line_of s c.args.line.now) (sym (c.schema.ensures ∙ ap (λ w. w.cube.schema) c.self.view_is)) ∙ subst (IsLineFaultOf c.schema.result.now c.args.line.now) c.in-Err-Code.field-0-is c.in-Err-Code.ensures.refused) kept

pub returns-in-Err-Code-clause-stopped : goal.returns-in-Err-Code-clause-stopped
returns-in-Err-Code-clause-stopped g c = λ schema first lines start before keeps done kept.
    c.refuse.ensures.stopped schema first lines start c.args.line.now before _ done (ap (λ s. line_of s c.args.line.now) (sym (c.schema.ensures ∙ ap (λ w. w.cube.schema) c.self.view_is)) ∙ subst (IsLineFaultOf c.schema.result.now c.args.line.now) c.in-Err-Code.field-0-is c.in-Err-Code.ensures.refused) kept

pub returns-in-Err-clause-broken : goal.returns-in-Err-clause-broken
returns-in-Err-clause-broken g c = λ schema first lines start done.
    breaks_off-before _ schema first lines c.args.line.now _ _ (c.in-Err.ensures.broken schema first lines start done)

pub returns-in-Err-clause-stopped : goal.returns-in-Err-clause-stopped
returns-in-Err-clause-stopped g c = λ schema first lines start before keeps done kept.
    line_not_done _ schema first lines c.args.line.now start _ before _ _ c.args.self.now c.args.self.now.done _ done kept refl refl (inr c.in-Err.ensures.stop)

pub returns-in-Err-clause-cause : goal.returns-in-Err-clause-cause
returns-in-Err-clause-cause g c =
    told_or_not _ c.in-Err.ensures.stop.no_keep

pub returns-clause-done : goal.returns-clause-done
returns-clause-done g c = λ schema first lines start done.
    let weigh = weigh_of in
    let line = c.args.line.now in
    let ready = c.make_ready.new.self in
    let is_read = ap (λ w. line_of w.cube.schema line) c.in_default.ensures.same ∙ ap (λ s. line_of s line) (sym (c.schema.ensures ∙ ap (λ w. w.cube.schema) c.self.view_is)) ∙ c.in-Ok.ensures.line in
    subst (λ p. HasDone {P = PolicyWord} (weigh p) schema first lines start (g.K.Sink.tells c.make_ready.new.out).taken ready
    → OnOk c.do_read-done.result (HasDone {P = PolicyWord} (weigh p) schema first (lines ++ line ∷ []) start (g.K.Sink.tells c.do_read-done.new.out).taken c.do_read-done.new.self))
    c.make_ready.ensures.policy (λ here. c.do_read-done.ensures.done schema first lines start line here is_read) (c.in_default.ensures.done schema first lines start done)

pub returns-clause-broken : goal.returns-clause-broken
returns-clause-broken g c = λ schema first lines start done.
    let weigh = weigh_of in
    let line = c.args.line.now in
    let ready = c.make_ready.new.self in
    let is_read = ap (λ w. line_of w.cube.schema line) c.in_default.ensures.same ∙ ap (λ s. line_of s line) (sym (c.schema.ensures ∙ ap (λ w. w.cube.schema) c.self.view_is)) ∙ c.in-Ok.ensures.line in
    let sink = sink_seen g.K.Sink.tells c.make_ready.new.out c.do_read-done.new.out in
    let here =
    subst (λ p. HasDone {P = PolicyWord} (weigh p) schema first lines start (g.K.Sink.tells c.make_ready.new.out).taken ready
    → IfErr c.do_read-done.result (BreaksOff (run (weigh p) schema first (lines ++ line ∷ [])).replies (seen_since sink start)))
    c.make_ready.ensures.policy (λ here. c.do_read-done.ensures.broken schema first lines start line here is_read) (c.in_default.ensures.done schema first lines start done) in
    subst (λ n. IfErr c.do_read-done.result (BreaksOff (run (weigh c.args.self.now.cube.policy) schema first (lines ++ line ∷ [])).replies (record { taken = start; taken_after = (g.K.Sink.tells c.do_read-done.new.out).taken; faults = n; faults_after = (g.K.Sink.tells c.do_read-done.new.out).faults })))
    c.in_default.ensures.count here

pub returns-clause-kept : goal.returns-clause-kept
returns-clause-kept g c = λ schema first lines start before keeps done kept.
    let weigh = weigh_of in
    let line = c.args.line.now in
    let ready = c.make_ready.new.self in
    let told = told_of g.Q.Keeper.tells c.args.keeper.now in
    let told_after = told_of g.Q.Keeper.tells c.do_read-done.new.keeper in
    let is_read = ap (λ w. line_of w.cube.schema line) c.in_default.ensures.same ∙ ap (λ s. line_of s line) (sym (c.schema.ensures ∙ ap (λ w. w.cube.schema) c.self.view_is)) ∙ c.in-Ok.ensures.line in
    subst (λ p. HasDone {P = PolicyWord} (weigh p) schema first lines start (g.K.Sink.tells c.make_ready.new.out).taken ready → HasKept (weigh p) schema first lines before told ready.gathered
    → OnOk c.do_read-done.result (HasKept (weigh p) schema first (lines ++ line ∷ []) before told_after c.do_read-done.new.self.gathered))
    c.make_ready.ensures.policy (λ here kept_here. c.do_read-done.ensures.kept schema first lines start line before (c.in_default.ensures.ready keeps) here is_read kept_here)
    (c.in_default.ensures.done schema first lines start done) (has_kept-fewer _ schema first lines before told _ _ kept c.in_default.ensures.fewer)

pub returns-clause-stopped : goal.returns-clause-stopped
returns-clause-stopped g c = λ schema first lines start before keeps done kept.
    let weigh = weigh_of in
    let line = c.args.line.now in
    let ready = c.make_ready.new.self in
    let told = told_of g.Q.Keeper.tells c.args.keeper.now in
    let told_after = told_of g.Q.Keeper.tells c.do_read-done.new.keeper in
    let is_read = ap (λ w. line_of w.cube.schema line) c.in_default.ensures.same ∙ ap (λ s. line_of s line) (sym (c.schema.ensures ∙ ap (λ w. w.cube.schema) c.self.view_is)) ∙ c.in-Ok.ensures.line in
    subst (λ p. HasDone {P = PolicyWord} (weigh p) schema first lines start (g.K.Sink.tells c.make_ready.new.out).taken ready → HasKept (weigh p) schema first lines before told ready.gathered
    → IfErr c.do_read-done.result (KeptAt (weigh p) schema first (lines ++ line ∷ []) before told_after))
    c.make_ready.ensures.policy (λ here kept_here. c.do_read-done.ensures.stopped schema first lines start line before (c.in_default.ensures.ready keeps) here is_read kept_here)
    (c.in_default.ensures.done schema first lines start done) (has_kept-fewer _ schema first lines before told _ _ kept c.in_default.ensures.fewer)

pub returns-clause-other_cause : goal.returns-clause-other_cause
returns-clause-other_cause g c = λ keeps. c.do_read-done.ensures.other_cause (c.in_default.ensures.ready keeps)
