use Rattle.fact_groups.proofs.Partition.{shares_over_keys, values_over_keys}
use Rattle.fact_groups.proofs.laws.values_of_keys_are_taken_once.Goals as goal

pub returns : goal.returns
returns g c = record {
  values = λ holds keys. values_over_keys holds keys;
  shares = λ holds keys. shares_over_keys holds keys;
}
