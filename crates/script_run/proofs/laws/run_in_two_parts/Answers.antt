use Rattle.script_run.proofs.Runs.{runs_in_parts}
use Rattle.script_run.proofs.laws.run_in_two_parts.Goals as goal

pub returns : goal.returns
returns c = λ policy schema first lines more. runs_in_parts policy schema first lines more
