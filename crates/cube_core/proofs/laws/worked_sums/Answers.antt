-- The definitions compute it.
use Rattle.std.proofs.Common.{refl}
use Rattle.cube_model.specs.Allocation.{allocation, extended}
use Rattle.cube_model.specs.Answer.{answer}
use Rattle.cube_model.specs.Cells.{all_cells, cells_of, is_inside}
use Rattle.cube_model.specs.Difference.{refreshed}
use Rattle.cube_model.specs.Tree.{is_leaf, is_under, leaves, parent, path}
use Rattle.cube_core.proofs.laws.worked_sums.Goals as goal

pub returns : goal.returns
unfolding allocation extended answer refreshed all_cells cells_of is_inside is_leaf is_under leaves parent path
returns c = record {
  spread = refl;
  cell = refl;
  changed = refl;
  refreshed = refl;
  own = refl;
  negative = refl;
  zero = refl;
  not_weighed = refl;
}
