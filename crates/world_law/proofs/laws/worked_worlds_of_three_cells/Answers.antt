-- The definitions compute it.
use Rattle.std.proofs.Common.{refl}
use Rattle.cube_model.specs.Answer.{answer}
use Rattle.cube_model.specs.Cells.{all_cells, cells_of, is_inside}
use Rattle.cube_model.specs.Tree.{is_leaf, is_under, leaves, parent, path}
use Rattle.world_law.specs.Worlds.{worlds}
use Rattle.world_law.proofs.laws.worked_worlds_of_three_cells.Goals as goal

pub returns : goal.returns
unfolding all_cells answer cells_of is_inside is_leaf is_under leaves parent path worlds
returns c = record {
  listed = refl;
  mass = refl;
  cells = refl;
  counts = refl;
  sums = refl;
  total_count = refl;
  total_sum = refl;
  cleared_count = refl;
  cleared_sum = refl;
}
