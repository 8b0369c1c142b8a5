use Rattle.std.proofs.Common.{◌+◌, ap, ◌∙◌, inl, arith}
use Rattle.script_run.specs.declared.break_off.BreakOff.TheVariants.{Memory}
use Rattle.script_run.specs.Seen.{sink_seen}
use Rattle.script_run.proofs.Writing.{breaks_off-more, breaks_off_whole}
use Rattle.script_run.proofs.script_run.ScriptRun.give_up.Goals as goal

pub returns-in-Err-clause-broken : goal.returns-in-Err-clause-broken
returns-in-Err-clause-broken g c = λ replies later start gathered answered few count.
    breaks_off-more replies later _ _ (c.in-Err.ensures.broken replies start gathered answered)

pub returns-clause-broken : goal.returns-clause-broken
returns-clause-broken g c = λ replies later start gathered answered few count.
    let sink = sink_seen g.K.Sink.tells c.args.out.now c.send.new.out in
    let same = ap (λ w. w.done) (c.self.view_is ∙ c.in_default.ensures.empty) in
    breaks_off_whole replies later start sink (c.self.inside.done + c.args.more) (c.in_default.ensures.all replies start gathered) few (omega (arith, same, answered, count)) c.in_default.ensures.count

pub returns-clause-stop : goal.returns-clause-stop
returns-clause-stop g c = inl (ap (λ w. Memory (w.done + c.args.more)) (c.self.view_is ∙ c.in_default.ensures.empty))
