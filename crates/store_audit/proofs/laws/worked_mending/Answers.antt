use Rattle.std.proofs.Common.{refl}
use Rattle.cube_model.specs.Allocation.{allocation, extended}
use Rattle.cube_model.specs.Cells.{all_cells, cells_of, is_inside}
use Rattle.cube_model.specs.Tree.{is_leaf, is_under, leaves, parent, path}
use Rattle.store_audit.proofs.laws.worked_mending.Goals as goal

-- the definitions compute the batches
pub returns : goal.returns
unfolding all_cells allocation cells_of extended is_inside is_leaf is_under leaves parent path
returns c = record { sound = refl; cell = refl; den = refl; missing = refl; stray = refl; order = refl; twice = refl; strays = refl }
