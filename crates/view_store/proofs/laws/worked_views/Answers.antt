use Rattle.std.proofs.Common.{refl}
use Rattle.cube_model.specs.Answer.{merge}
use Rattle.cube_model.specs.Cells.{is_inside}
use Rattle.cube_model.specs.Cut.{cut, in_cut}
use Rattle.cube_model.specs.Tree.{is_leaf, is_under, parent, path}
use Rattle.region_algebra.specs.Space.{all_regions}
use Rattle.view_store.proofs.laws.worked_views.Goals as goal

-- the definitions compute it
pub returns : goal.returns
unfolding merge is_inside cut in_cut is_leaf is_under parent path all_regions
returns c = record {
  leaves = refl;
  inner = refl;
  met = refl;
  served = refl;
  too_deep = refl;
  listed = refl;
  whole = refl;
  part = refl;
  nothing = refl;
  reached = refl;
}
