use Rattle.fact_records.proofs.SmallValues.{small-accepted}
use Rattle.fact_records.proofs.laws.accepted_values_are_small.Goals as goal

pub returns : goal.returns
returns c = λ shape values is accepted. small-accepted shape values accepted is.measures
