-- The definitions compute it.
use Rattle.std.proofs.Common.{refl}
use Rattle.cube_model.specs.Cells.{all_cells, cells_of, is_inside}
use Rattle.cube_model.specs.Tree.{is_leaf, is_under, leaves, parent, path}
use Rattle.world_range.proofs.laws.worked_ends_above_0.Goals as goal

pub returns : goal.returns
unfolding all_cells cells_of is_inside is_leaf is_under leaves parent path
returns c = record {
  least = refl;
  greatest = refl;
  low = refl;
  high = refl;
  fewest = refl;
  most = refl;
  beside = refl;
  beside_high = refl;
  inside = refl;
  inside_low = refl;
  outside = refl;
  outside_high = refl;
}
