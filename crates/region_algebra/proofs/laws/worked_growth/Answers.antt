use Rattle.std.proofs.Common.{refl}
use Rattle.cube_model.specs.Cells.{all_cells, cells_of, is_inside}
use Rattle.cube_model.specs.Growing.{grown}
use Rattle.cube_model.specs.Tree.{is_leaf, is_under, leaves, parent, path}
use Rattle.region_algebra.proofs.laws.worked_growth.Goals as goal

-- the definitions compute it
pub returns : goal.returns
unfolding all_cells cells_of grown is_inside is_leaf is_under leaves parent path
returns c = record {
  accepted = refl;
  grown = refl;
  leaf_of_a_leaf = refl;
  coded = refl;
  name = refl;
  name_elsewhere = refl;
  depth = refl;
  name_before_depth = refl;
  first_dimension = refl;
  most_nodes = refl;
  nodes = refl;
  cells_before_nodes = refl;
}
