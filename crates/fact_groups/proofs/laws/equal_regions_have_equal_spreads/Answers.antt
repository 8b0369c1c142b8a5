use Rattle.fact_groups.proofs.Sharing.{allocation-shared, allocation-spread_at}
use Rattle.fact_groups.proofs.laws.equal_regions_have_equal_spreads.Goals as goal

pub returns : goal.returns
returns c = record { spread = allocation-spread_at; equal = allocation-shared }
