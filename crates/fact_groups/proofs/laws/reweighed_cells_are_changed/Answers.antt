use Rattle.fact_groups.proofs.Statistics.{among-both, reweighed-some, sum-reweighed}
use Rattle.fact_groups.proofs.laws.reweighed_cells_are_changed.Goals as goal

pub returns : goal.returns
returns c = record { some = reweighed-some; among = among-both; sums = λ f policy dims edit facts. sum-reweighed policy dims edit facts f }
