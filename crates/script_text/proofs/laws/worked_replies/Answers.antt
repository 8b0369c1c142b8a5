use Rattle.std.proofs.Common.{refl}
use Rattle.std.specs.Fmt.{digits}
use Rattle.cube_model.specs.Cells.{all_cells}
use Rattle.cube_model.specs.Tree.{is_leaf, leaves, parent, path}
use Rattle.script_text.specs.Decimals.{last_digits, whole_text}
use Rattle.script_text.proofs.laws.worked_replies.Goals as goal

-- the definitions compute it
pub returns : goal.returns
unfolding last_digits whole_text digits all_cells is_leaf leaves parent path
returns c = record {
  no_terms = refl;
  terms = refl;
  rows = refl;
  numbers = refl;
  fraction = refl;
  whole = refl;
  zero = refl;
  below_zero = refl;
  whole_below_zero = refl;
  wide = refl;
  average = refl;
  no_bounds = refl;
  undefined = refl;
  pool = refl;
  no_entries = refl;
  view = refl;
  no_picks = refl;
  picks = refl;
  no_regions = refl;
  table = refl;
}
