use Rattle.fact_groups.proofs.Answering.{answer-grouped}
use Rattle.fact_groups.proofs.Groups.{count-grouped, group_at-found, group_at-region, grouped-by_increasing, rows-grouped, sum-grouped}
use Rattle.fact_groups.proofs.laws.groups_stand_for_their_facts.Goals as goal

pub returns : goal.returns
returns c = record { rows = rows-grouped; counts = count-grouped; sums = sum-grouped; answers = answer-grouped; grouped = grouped-by_increasing; regions = group_at-region; spreads = group_at-found }
