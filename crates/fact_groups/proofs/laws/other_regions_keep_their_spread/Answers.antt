use Rattle.fact_groups.proofs.Frame.{spread-agree, spread_at-kept, spread_at-single}
use Rattle.fact_groups.proofs.laws.other_regions_keep_their_spread.Goals as goal

pub returns : goal.returns
returns c = record { kept = spread_at-kept; precise = spread_at-single; weights = spread-agree }
