use Rattle.fact_groups.proofs.Refreshing.{same_allocation, same_allocations}
use Rattle.fact_groups.proofs.laws.same_allocations_are_equal.Goals as goal

pub returns : goal.returns
returns c = record { equal = same_allocations; same = same_allocation }
