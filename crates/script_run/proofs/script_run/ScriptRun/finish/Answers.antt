use Rattle.std.proofs.Common.{ap, ◌∙◌}
use Rattle.std.proofs.lemmas.Result.{err_from_is_err_and}
use Rattle.script_run.specs.Run.{run}
use Rattle.script_run.proofs.Doing.{count_done}
use Rattle.script_run.proofs.script_run.ScriptRun.finish.Goals as goal

pub returns-in_err-send-clause-broken : goal.returns-in_err-send-clause-broken
returns-in_err-send-clause-broken g c = λ schema first lines start done.
    let exit = err_from_is_err_and c.from_residual.result c.from_residual.ensures.1 in
    rw (exit.1, exit.2) (c.in_err-send.ensures.broken (run _ schema first lines).replies start done.gathered (count_done _ schema first lines start _ _ done))

pub returns-clause-done : goal.returns-clause-done
returns-clause-done g c = λ schema first lines start done. record {
  bytes = c.in_ok-send.ensures.all (run _ schema first lines).replies start done.gathered;
  count = ap (λ w. w.refused) (c.self.view_is ∙ c.in_ok-send.ensures.empty) ∙ done.refused;
  no_fault = c.in_ok-send.ensures.count;
}
