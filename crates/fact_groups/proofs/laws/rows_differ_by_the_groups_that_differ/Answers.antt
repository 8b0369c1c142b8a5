use Rattle.fact_groups.proofs.Differing.{rows-differ, sums_differ}
use Rattle.fact_groups.proofs.laws.rows_differ_by_the_groups_that_differ.Goals as goal

pub returns : goal.returns
returns c = record { rows = rows-differ; sums = sums_differ }
