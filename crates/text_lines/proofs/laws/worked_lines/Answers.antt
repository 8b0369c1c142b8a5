use Rattle.std.proofs.Common.{refl}
use Rattle.std.specs.Str.{chars, is_utf8}
use Rattle.std.specs.Char.{encode_utf8}
use Rattle.text_lines.proofs.laws.worked_lines.Goals as goal

-- the definitions compute it
pub returns : goal.returns
unfolding is_utf8 chars encode_utf8
returns c = record {
  no_line = refl;
  ended_line = refl;
  open_line = refl;
  one_cr = refl;
  inner_cr = refl;
  empty_skipped = refl;
  only_cr_skipped = refl;
  comment_skipped = refl;
  space_not_skipped = refl;
  most_bytes = refl;
  too_many_bytes = refl;
  tab_clean = refl;
  control_not_clean = refl;
  delete_not_clean = refl;
  half_a_letter_not_clean = refl;
  one_field = refl;
  empty_fields = refl;
}
