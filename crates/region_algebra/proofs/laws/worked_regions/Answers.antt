use Rattle.std.proofs.Common.{refl}
use Rattle.cube_model.specs.Cells.{all_cells, cells_of, is_inside}
use Rattle.cube_model.specs.Tree.{is_leaf, is_under, leaves, parent, path}
use Rattle.region_algebra.specs.Space.{all_regions}
use Rattle.region_algebra.proofs.laws.worked_regions.Goals as goal

-- the definitions compute it
pub returns : goal.returns
unfolding all_cells cells_of is_inside is_leaf is_under leaves parent path all_regions
returns c = record {
  no_node = refl;
  cells = refl;
  cells_of_a_leaf = refl;
  all_cells = refl;
  leaves_of_a_cell = refl;
  only_cell = refl;
  several_cells = refl;
  meet = refl;
  shared = refl;
  apart = refl;
  nothing_shared = refl;
  regions = refl;
  code = refl;
  last_code = refl;
  no_code = refl;
  accepted = refl;
  numbered = refl;
  no_number = refl;
  numbered_cells = refl;
  numbered_leaf = refl;
  numbered_leaves = refl;
  numbered_meet = refl;
  numbered_apart = refl;
  coded = refl;
  uncoded = refl;
  no_dimension = refl;
  seven_dimensions = refl;
  large = refl;
  many_cells = refl;
  many_nodes = refl;
}
