use Rattle.std.proofs.Common.{refl}
use Rattle.cube_model.specs.Answer.{answer}
use Rattle.cube_model.specs.Cells.{all_cells, cells_of, is_inside}
use Rattle.cube_model.specs.Tree.{is_leaf, is_under, leaves, parent, path}
use Rattle.region_algebra.specs.Space.{all_regions}
use Rattle.view_store.proofs.laws.worked_changes.Goals as goal

-- the definitions compute it
pub returns : goal.returns
unfolding all_cells answer cells_of is_inside is_leaf is_under leaves parent path all_regions
returns c = record {
  facts = refl;
  nothing_taken = refl;
  at_once = refl;
  one_by_one = refl;
}
