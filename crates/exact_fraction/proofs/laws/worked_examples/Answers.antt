use Rattle.std.proofs.Common.{refl}
use Rattle.exact_fraction.specs.Number.{greatest_to, gcd, lcm}
use Rattle.exact_fraction.specs.One.{one_of}
use Rattle.exact_fraction.specs.Ratio.{ratio_of}
use Rattle.exact_fraction.proofs.laws.worked_examples.Goals as goal

-- the definitions compute it
pub returns : goal.returns
unfolding greatest_to gcd lcm one_of ratio_of
returns c = record {
  count = refl;
  sum = refl;
  nothing = refl;
  negative = refl;
  average = refl;
  negative_average = refl;
  first_outcome = refl;
  second_outcome = refl;
  undefined = refl;
}
