use Rattle.fact_groups.proofs.Partition.{counts_over_keys, lengths_over_keys, sums_over_keys, totals_over_keys}
use Rattle.fact_groups.proofs.laws.sums_over_items_are_sums_over_keys.Goals as goal

pub returns : goal.returns
returns g c = record {
  sums = λ holds keys. sums_over_keys holds keys;
  totals = λ holds keys. totals_over_keys holds keys;
  counts = λ holds keys. counts_over_keys holds keys;
  lengths = λ holds keys. lengths_over_keys holds keys;
}
