-- The definitions compute it.
use Rattle.std.proofs.Common.{refl}
use Rattle.cube_model.specs.Allocation.{allocation, extended}
use Rattle.cube_model.specs.Answer.{answer}
use Rattle.cube_model.specs.Cells.{all_cells, cells_of, is_inside}
use Rattle.cube_model.specs.Difference.{refreshed}
use Rattle.cube_model.specs.Tree.{is_leaf, is_under, leaves, parent, path}
use Rattle.fact_groups.specs.Changes.{changed_cells, touched_cells}
use Rattle.world_law.specs.Worlds.{worlds}
use Rattle.cube_core.proofs.laws.worked_cube.Goals as goal

pub returns : goal.returns
unfolding allocation extended answer refreshed all_cells cells_of is_inside is_leaf is_under leaves parent path worlds changed_cells touched_cells
returns c = record {
  spread = refl;
  precise = refl;
  even = refl;
  none = refl;
  cell = refl;
  neighbour = refl;
  region = refl;
  nothing = refl;
  worlds = refl;
  counted = refl;
  summed = refl;
  replaced = refl;
  unchanged = refl;
  withdrawn = refl;
  put = refl;
  imported = refl;
  accepted = refl;
  moved = refl;
  large = refl;
  exists = refl;
  not_there = refl;
  missing = refl;
  parts = refl;
  whole = refl;
  steps = refl;
}
