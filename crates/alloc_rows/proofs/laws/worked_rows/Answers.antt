-- The definitions compute it.
use Rattle.std.proofs.Common.{refl}
use Rattle.cube_model.specs.Allocation.{allocation}
use Rattle.cube_model.specs.Cells.{all_cells, cells_of, is_inside}
use Rattle.cube_model.specs.Tree.{is_leaf, is_under, leaves, parent, path}
use Rattle.alloc_rows.proofs.laws.worked_rows.Goals as goal

pub returns : goal.returns
unfolding allocation all_cells cells_of is_inside is_leaf is_under leaves parent path
returns c = record {
  count = refl;
  sum = refl;
  evenly = refl;
  moved = refl;
  alone = refl;
  zeros = refl;
  zero = refl;
  precise = refl;
  one_leaf = refl;
  at_one_leaf = refl;
  inside = refl;
  all_inside = refl;
  none_inside = refl;
}
