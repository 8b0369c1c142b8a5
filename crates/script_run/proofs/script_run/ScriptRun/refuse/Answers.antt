-- A refused line is answered, and commits nothing.
use Rattle.std.proofs.Common.{◌+◌, ◌≤◌, Err, Some, length, refl, subst, sym}
use Rattle.std.specs.Prelude.{IfErr}
use Rattle.std.proofs.lemmas.Result.{IfErr-weaker, on_ok_weaker}
use Rattle.script_text.specs.declared.reply.Reply.TheVariants.{Refused}
use Rattle.schema_text.specs.Schema.{weigh_of}
use Rattle.schema_text.specs.declared.word.PolicyWord.{PolicyWord}
use Rattle.script_run.specs.Kept.{IsGatheredStop}
use Rattle.script_run.specs.Progress.{BreaksOff}
use Rattle.script_run.specs.Run.{run}
use Rattle.script_run.specs.Seen.{seen_since, sink_seen}
use Rattle.script_run.proofs.Batches.{commits_none}
use Rattle.script_run.proofs.Doing.{count_done, line_done, on_ok_both, replies_here}
use Rattle.script_run.proofs.KeptLines.{line_kept, line_stopped}
use Rattle.script_run.proofs.script_run.ScriptRun.refuse.Goals as goal

pub returns-clause-done : goal.returns-clause-done
returns-clause-done g c = λ schema first lines start line done is_read.
    let weigh = weigh_of c.args.self.now.cube.policy in
    let taken = (g.K.Sink.tells c.args.out.now).taken in
    on_ok_both c.answer.result
    (λ more answered. line_done {P = PolicyWord} weigh schema first lines line start taken _ c.args.self.now c.args.self.now c.answer.new.self (Err c.args.code) (Some (Refused c.args.code)) done is_read refl refl more answered)
    (c.answer.ensures.gathered (run weigh schema first lines).replies start done.gathered) c.answer.ensures.answered

pub returns-clause-broken : goal.returns-clause-broken
returns-clause-broken g c = λ schema first lines start line done is_read.
    let weigh = weigh_of c.args.self.now.cube.policy in
    let taken = (g.K.Sink.tells c.args.out.now).taken in
    let sink = sink_seen g.K.Sink.tells c.args.out.now c.answer.new.out in
    let all = replies_here {P = PolicyWord} weigh schema first lines line start taken c.args.self.now (Err c.args.code) c.args.self.now.cube (Some (Refused c.args.code)) done is_read refl refl in
    subst (λ replies. IfErr c.answer.result (BreaksOff replies (seen_since sink start))) (sym all)
    (c.answer.ensures.broken (run weigh schema first lines).replies start done.gathered (count_done weigh schema first lines start taken _ done))

pub returns-clause-kept : goal.returns-clause-kept
returns-clause-kept g c = λ schema first lines start line before now done is_read kept.
    let weigh = weigh_of c.args.self.now.cube.policy in
    on_ok_weaker c.answer.result
    (λ (le : length c.answer.new.self.gathered ≤ length c.args.self.now.gathered + 1). line_kept {P = PolicyWord} weigh schema first lines line start _ before c.args.self.now (Err c.args.code) now now c.answer.new.self.gathered (record { none = λ is. absurd (cc is) }) done is_read kept (commits_none now now refl) le)
    c.answer.ensures.one_more

pub returns-clause-stopped : goal.returns-clause-stopped
returns-clause-stopped g c = λ schema first lines start line before now done is_read kept.
    let weigh = weigh_of c.args.self.now.cube.policy in
    IfErr-weaker c.answer.result (IsGatheredStop (c.args.self.now.done + 1) (length c.args.self.now.gathered + 1)) _
    (λ off here. line_stopped {P = PolicyWord} weigh schema first lines line start _ before c.args.self.now (Err c.args.code) now now off (record { none = λ is. absurd (cc is) }) done is_read kept (commits_none now now refl) here) c.answer.ensures.stop

pub returns-clause-no_keep : goal.returns-clause-no_keep
returns-clause-no_keep g c = IfErr-weaker c.answer.result _ _ (λ off stop. stop.no_keep) c.answer.ensures.stop
