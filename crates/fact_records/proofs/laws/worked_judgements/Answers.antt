use Rattle.std.proofs.Common.{refl}
use Rattle.cube_model.specs.Allocation.{allocation, extended}
use Rattle.cube_model.specs.Cells.{all_cells, cells_of, is_inside}
use Rattle.cube_model.specs.Tree.{is_leaf, is_under, leaves, parent, path}
use Rattle.fact_records.proofs.laws.worked_judgements.Goals as goal

-- the definitions compute it
pub returns : goal.returns
unfolding allocation extended all_cells cells_of is_inside is_leaf is_under leaves parent path
returns c = record {
  accepted = refl;
  moved = refl;
  withdrawn = refl;
  large = refl;
  exists = refl;
  changed_missing = refl;
  missing = refl;
}
