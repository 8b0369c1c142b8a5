use Rattle.std.proofs.Common.{refl}
use Rattle.cube_model.specs.Cells.{all_cells, cells_of, is_inside}
use Rattle.cube_model.specs.Tree.{is_leaf, is_under, leaves, parent, path}
use Rattle.region_algebra.specs.Space.{all_regions}
use Rattle.region_index.specs.Over.{codes_over}
use Rattle.region_index.specs.Patterns.{codes_of_pattern}
use Rattle.region_index.proofs.laws.worked_indexes.Goals as goal

-- the definitions compute it
pub returns : goal.returns
unfolding all_cells cells_of is_inside is_leaf is_under leaves parent path all_regions codes_over codes_of_pattern
returns c = record {
  over = refl;
  over_a_leaf_below_the_root = refl;
  over_numbered = refl;
  over_no_cell = refl;
  pattern = refl;
  pattern_of_the_roots = refl;
  of_a_pattern = refl;
  leaf_less_deep = refl;
  noted = refl;
  noted_twice = refl;
  depths = refl;
  covering = refl;
  covering_elsewhere = refl;
  drops_before_puts = refl;
  put_between = refl;
  held_once = refl;
  not_there = refl;
}
