use Rattle.std.proofs.Common.{refl}
use Rattle.cube_model.specs.Cells.{all_cells, cells_of, is_inside}
use Rattle.cube_model.specs.Tree.{is_leaf, is_under, leaves, parent, path}
use Rattle.region_algebra.specs.Space.{all_regions}
use Rattle.region_index.specs.Touching.{codes_touching}
use Rattle.region_index.proofs.laws.worked_touching.Goals as goal

-- the definitions compute it
pub returns : goal.returns
unfolding all_cells cells_of is_inside is_leaf is_under leaves parent path all_regions codes_touching
returns c = record { node_and_leaf = refl; node_and_root = refl; leaf_below_the_root = refl; numbered = refl }
