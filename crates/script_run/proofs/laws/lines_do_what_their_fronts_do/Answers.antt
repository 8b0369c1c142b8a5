use Rattle.script_run.proofs.FrontRuns.{batches-front, run-front}
use Rattle.script_run.proofs.laws.lines_do_what_their_fronts_do.Goals as goal

pub returns : goal.returns
returns c = record { outcome = run-front; batches = batches-front }
