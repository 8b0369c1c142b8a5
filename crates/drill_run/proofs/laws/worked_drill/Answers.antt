-- The drill of 1, step by step.
use Rattle.std.proofs.Common.{refl}
use Rattle.drill_run.proofs.Working.{edits-of-one, line-of-one, tally-of-one}
use Rattle.drill_run.proofs.laws.worked_drill.Goals as goal

pub returns : goal.returns
returns c = record { draws = refl; edits = edits-of-one; tally = tally-of-one; line = line-of-one }
