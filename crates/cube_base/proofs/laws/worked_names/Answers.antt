use Rattle.std.proofs.Common.{refl}
use Rattle.std.specs.Str.{chars, is_utf8}
use Rattle.std.specs.Char.{encode_utf8}
use Rattle.cube_base.proofs.laws.worked_names.Goals as goal

-- the definitions compute it
pub returns : goal.returns
unfolding is_utf8 chars encode_utf8
returns c = record {
  one_byte = refl;
  no_byte = refl;
  most_bytes = refl;
  too_many_bytes = refl;
  space = refl;
  below_space = refl;
  tilde = refl;
  delete = refl;
  letter_of_two_bytes = refl;
  half_a_letter = refl;
}
