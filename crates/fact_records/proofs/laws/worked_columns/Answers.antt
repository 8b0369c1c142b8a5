use Rattle.std.proofs.Common.{refl}
use Rattle.fact_records.proofs.laws.worked_columns.Goals as goal

-- the definitions compute it
pub returns : goal.returns
returns c = record {
  accepted = refl;
  values = refl;
  parts = refl;
  weighed = refl;
  sums = refl;
  no_sums = refl;
  found = refl;
}
