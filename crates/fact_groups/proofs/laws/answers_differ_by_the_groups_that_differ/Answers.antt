use Rattle.fact_groups.proofs.Differing.{columns-differ, counts-differ}
use Rattle.fact_groups.proofs.laws.answers_differ_by_the_groups_that_differ.Goals as goal

pub returns : goal.returns
returns c = record { counts = counts-differ; sums = columns-differ }
