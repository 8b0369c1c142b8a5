use Rattle.fact_groups.proofs.Edits.{length-after, sum-after, total-after}
use Rattle.fact_groups.proofs.laws.edits_move_sums_by_one_fact.Goals as goal

pub returns : goal.returns
returns c = record { sums = sum-after; totals = total-after; lengths = length-after }
