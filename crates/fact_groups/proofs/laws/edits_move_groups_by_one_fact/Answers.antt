use Rattle.fact_groups.specs.Groups.{has_code}
use Rattle.fact_groups.proofs.Edits.{count-with, total-with}
use Rattle.fact_groups.proofs.laws.edits_move_groups_by_one_fact.Goals as goal

pub returns : goal.returns
returns c = record {
  counts = λ dims code. count-with (has_code dims code);
  totals = λ value dims code. total-with value (has_code dims code);
}
