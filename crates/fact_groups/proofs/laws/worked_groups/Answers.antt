-- The definitions compute it.
use Rattle.std.proofs.Common.{refl}
use Rattle.cube_model.specs.Allocation.{allocation, extended}
use Rattle.cube_model.specs.Cells.{all_cells, cells_of, is_inside}
use Rattle.cube_model.specs.Difference.{refreshed}
use Rattle.cube_model.specs.Tree.{is_leaf, is_under, leaves, parent, path}
use Rattle.fact_groups.specs.Changes.{changed_cells, reweighed_cells, touched_cells}
use Rattle.fact_groups.specs.Groups.{spread_at}
use Rattle.fact_groups.proofs.laws.worked_groups.Goals as goal

pub returns : goal.returns
unfolding all_cells allocation cells_of changed_cells extended is_inside is_leaf is_under leaves parent path refreshed reweighed_cells spread_at touched_cells
returns c = record {
  groups = refl;
  no_group = refl;
  rows = refl;
  all_rows = refl;
  counted = refl;
  summed = refl;
  taken = refl;
  taken_by_a_put = refl;
  put_over = refl;
  touched = refl;
  touched_by_a_new_fact = refl;
  not_touched = refl;
  changed = refl;
  not_reweighed = refl;
  touched_in_place = refl;
  alike = refl;
  reweighed_by_its_value = refl;
  refreshed = refl;
  covering = refl;
  as_facts = refl;
  respread = refl;
  respread_ids = refl;
  found = refl;
}
