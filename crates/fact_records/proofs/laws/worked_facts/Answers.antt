use Rattle.std.proofs.Common.{refl}
use Rattle.fact_records.proofs.laws.worked_facts.Goals as goal

-- the definitions compute it
pub returns : goal.returns
returns c = record {
  named = refl;
  exchanged = refl;
  fact = refl;
  largest = refl;
  id = refl;
  node = refl;
  number_first = refl;
  weighed = refl;
}
