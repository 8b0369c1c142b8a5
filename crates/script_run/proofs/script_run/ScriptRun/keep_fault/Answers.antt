use Rattle.std.proofs.Common.{ap, ◌∙◌, inl}
use Rattle.script_run.specs.declared.break_off.BreakOff.TheVariants.{Keep}
use Rattle.script_run.specs.Seen.{sink_seen}
use Rattle.script_run.proofs.Writing.{breaks_off_keep}
use Rattle.script_run.proofs.script_run.ScriptRun.keep_fault.Goals as goal

pub returns-clause-broken : goal.returns-clause-broken
returns-clause-broken g c = λ replies start gathered answered.
    let sink = sink_seen g.K.Sink.tells c.args.out.now c.send.new.out in
    let same = ap (λ w. w.done) (c.self.view_is ∙ c.in_default.ensures.empty) in
    breaks_off_keep replies start sink c.self.inside.done (c.in_default.ensures.all replies start gathered) (same ∙ answered) c.in_default.ensures.count

pub returns-clause-stop : goal.returns-clause-stop
returns-clause-stop g c = inl (ap (λ w. Keep w.done) (c.self.view_is ∙ c.in_default.ensures.empty))
