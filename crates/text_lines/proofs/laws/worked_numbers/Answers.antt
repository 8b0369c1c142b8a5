use Rattle.std.proofs.Common.{refl}
use Rattle.text_lines.proofs.laws.worked_numbers.Goals as goal

-- the definitions compute it
pub returns : goal.returns
returns c = record {
  nothing = refl;
  ten = refl;
  least = refl;
  most = refl;
  too_small = refl;
  too_large = refl;
  no_digit = refl;
  two_zeros = refl;
  leading_zero = refl;
  plus = refl;
  minus = refl;
  space_behind = refl;
  last = refl;
  above_last = refl;
}
