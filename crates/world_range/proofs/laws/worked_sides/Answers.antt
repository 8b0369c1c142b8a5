-- The definitions compute it.
use Rattle.std.proofs.Common.{refl}
use Rattle.cube_model.specs.Cells.{all_cells, cells_of, is_inside}
use Rattle.cube_model.specs.Tree.{is_leaf, is_under, leaves, parent, path}
use Rattle.world_range.proofs.laws.worked_sides.Goals as goal

pub returns : goal.returns
unfolding all_cells cells_of is_inside is_leaf is_under leaves parent path
returns c = record {
  both = refl;
  inside = refl;
  outside = refl;
  both_least = refl;
  both_greatest = refl;
  inside_least = refl;
  outside_greatest = refl;
}
