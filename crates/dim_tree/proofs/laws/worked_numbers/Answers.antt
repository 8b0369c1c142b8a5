use Rattle.std.proofs.Common.{refl}
use Rattle.cube_model.specs.Cells.{leaf_places}
use Rattle.cube_model.specs.Cut.{children, cut, first_child, in_cut, next_sibling}
use Rattle.cube_model.specs.Growing.{grown}
use Rattle.cube_model.specs.Tree.{dim_fault, is_leaf, is_numbered, is_under, leaves, parent, path, tree_fault}
use Rattle.dim_tree.proofs.laws.worked_numbers.Goals as goal

-- the definitions compute it
pub returns : goal.returns
unfolding grown leaf_places children cut first_child in_cut next_sibling dim_fault is_leaf is_numbered is_under leaves parent path tree_fault
returns c = record {
  accepted = refl;
  places = refl;
  parents = refl;
  under = refl;
  leaves = refl;
  leaf_places = refl;
  first_children = refl;
  next_siblings = refl;
  cuts = refl;
  found = refl;
  grown_behind_children = refl;
  grown_under_the_root = refl;
  grown_under_a_leaf = refl;
  grown_leaves = refl;
  repeated = refl;
  too_large = refl;
  not_above_parent = refl;
  root_not_first = refl;
  lines_before_numbers = refl;
}
