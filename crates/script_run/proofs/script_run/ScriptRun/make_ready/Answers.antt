-- The gathered replies are sent, or stay.
use Rattle.schema_text.specs.Schema.{weigh_of}
use Rattle.schema_text.specs.declared.word.PolicyWord.{PolicyWord}
use Rattle.script_run.specs.Run.{run}
use Rattle.script_run.proofs.Doing.{count_done, has_done-sent, on_ok_both}
use Rattle.script_run.proofs.script_run.ScriptRun.make_ready.Goals as goal

pub returns-then-is_edit-clause-done : goal.returns-then-is_edit-clause-done
returns-then-is_edit-clause-done g c = λ schema first lines start done.
    let weigh = weigh_of c.args.self.now.cube.policy in
    on_ok_both c.send.result
    (λ bytes empty. has_done-sent {P = PolicyWord} weigh schema first lines start (g.K.Sink.tells c.args.out.now).taken (g.K.Sink.tells c.send.new.out).taken c.args.self.now c.send.new.self done empty bytes)
    (c.send.ensures.all (run weigh schema first lines).replies start done.gathered) c.send.ensures.empty

pub returns-then-is_edit-clause-broken : goal.returns-then-is_edit-clause-broken
returns-then-is_edit-clause-broken g c = λ schema first lines start done.
    let weigh = weigh_of c.args.self.now.cube.policy in
    c.send.ensures.broken (run weigh schema first lines).replies start done.gathered (count_done {P = PolicyWord} weigh schema first lines start (g.K.Sink.tells c.args.out.now).taken c.args.self.now done)
