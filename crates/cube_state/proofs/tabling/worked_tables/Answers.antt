use Rattle.std.proofs.Common.{refl}
use Rattle.cube_model.specs.Cut.{cut, in_cut}
use Rattle.cube_model.specs.Tree.{is_leaf, is_under, parent, path}
use Rattle.cube_state.proofs.tabling.worked_tables.Goals as goal

-- the definitions compute it
pub returns : goal.returns
unfolding cut in_cut is_leaf is_under parent path
returns c = record { all = refl; leaves = refl; under = refl; deeper = refl; leaf = refl }
