use Rattle.std.proofs.Common.{refl}
use Rattle.fact_records.proofs.laws.worked_fields.Goals as goal

-- the definitions compute it
pub returns : goal.returns
returns c = record {
  numbers = refl;
  no_numbers = refl;
  parts = refl;
  no_parts = refl;
  weighed = refl;
  not_weighed = refl;
}
