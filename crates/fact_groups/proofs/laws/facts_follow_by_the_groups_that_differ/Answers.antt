use Rattle.fact_groups.proofs.AsFacts.{counts-follow, sums-follow}
use Rattle.fact_groups.proofs.laws.facts_follow_by_the_groups_that_differ.Goals as goal

pub returns : goal.returns
returns c = record { counts = counts-follow; sums = sums-follow }
