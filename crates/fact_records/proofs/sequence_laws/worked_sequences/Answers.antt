use Rattle.std.proofs.Common.{refl}
use Rattle.cube_model.specs.Cells.{all_cells, cells_of, is_inside}
use Rattle.cube_model.specs.Tree.{is_leaf, is_under, leaves, parent, path}
use Rattle.fact_records.proofs.sequence_laws.worked_sequences.Goals as goal

-- the definitions compute it
pub returns : goal.returns
unfolding all_cells cells_of is_inside is_leaf is_under leaves parent path
returns c = record {
  none = refl;
  new = refl;
  repeated = refl;
  kept = refl;
  large = refl;
  fact_first = refl;
  unreadable_last = refl;
}
