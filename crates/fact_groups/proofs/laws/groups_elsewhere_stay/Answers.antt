use Rattle.fact_groups.proofs.Elsewhere.{filter-after, group_at-kept}
use Rattle.fact_groups.proofs.laws.groups_elsewhere_stay.Goals as goal

pub returns : goal.returns
returns c = record { members = filter-after; groups = group_at-kept }
