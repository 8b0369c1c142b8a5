use Rattle.std.proofs.Common.{◌≡◌, ◌+◌, ◌-◌, length, sym, ap, ◌∙◌, subst, arith}
use Rattle.script_run.specs.Progress.{HasGathered}
use Rattle.script_run.specs.Seen.{sink_seen}
use Rattle.script_run.proofs.Writing.{breaks_off_part, took_all}
use Rattle.script_run.proofs.script_run.ScriptRun.send.Goals as goal

pub returns-clause-all : goal.returns-clause-all
returns-clause-all g c = λ replies start has.
    let here : c.self.inside.outbox ≡ c.args.self.now.gathered = ap (λ w. w.gathered) c.self.view_is in
    took_all replies c.self.inside.outbox start _ _ (subst (HasGathered replies start (g.K.Sink.tells c.args.out.now).taken) (sym here) has) c.in_default.ensures.bytes

pub returns-in-Err-clause-broken : goal.returns-in-Err-clause-broken
returns-in-Err-clause-broken g c = λ replies start has answered.
    let inside = c.self.inside in
    let here : inside.outbox ≡ c.args.self.now.gathered = ap (λ w. w.gathered) c.self.view_is in
    let count : inside.done ≡ length replies = ap (λ w. w.done) c.self.view_is ∙ answered in
    let line : c.len.result ≡ length inside.outbox = c.len.ensures in
    let sink = sink_seen g.K.Sink.tells c.args.out.now c.send.new.out in
    rw c.at.ensures
    (breaks_off_part replies inside.outbox start sink c.in-Err.cut.error c.in-Err.cut.whole inside.done (inside.done - c.len.result + c.in-Err.cut.whole + 1)
    (subst (HasGathered replies start (g.K.Sink.tells c.args.out.now).taken) (sym here) has) c.in-Err.ensures.cut c.in-Err.ensures.cause count (omega (arith, line)))
