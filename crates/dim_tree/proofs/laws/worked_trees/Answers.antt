use Rattle.std.proofs.Common.{refl}
use Rattle.cube_model.specs.Cells.{leaf_places}
use Rattle.cube_model.specs.Cut.{children, cut, first_child, in_cut, next_sibling}
use Rattle.cube_model.specs.Tree.{is_leaf, is_under, leaves, parent, path, tree_fault}
use Rattle.dim_tree.proofs.laws.worked_trees.Goals as goal

-- the definitions compute it
pub returns : goal.returns
unfolding leaf_places children cut first_child in_cut next_sibling is_leaf is_under leaves parent path tree_fault
returns c = record {
  parents = refl;
  under = refl;
  leaves = refl;
  leaf_places = refl;
  first_children = refl;
  next_siblings = refl;
  cuts = refl;
  found = refl;
  not_found = refl;
  accepted = refl;
  no_line = refl;
  deep_root = refl;
  second_root = refl;
  leap = refl;
  nine_nodes_deep = refl;
  ten_nodes_deep = refl;
  repeated_name = refl;
  depth_before_name = refl;
}
