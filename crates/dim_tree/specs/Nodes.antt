-- What is kept for each node, by the places of nodes, and what it says of them.
use Rattle.std.specs.Prelude.{◌≡◌, ℕ, ◌+◌, ◌-◌, ◌<◌, ◌≤◌, Bool, List, [], length, map, position, slice_get, slice_index, nat_le, nat_lt, ◌&&◌, ◌||◌, ◌==◌, if◌then◌else◌, Some, None}
use Rattle.std.specs.List.{list_all, range_with_len}
use Rattle.std.specs.Option.{option_map}
use Rattle.cube_model.specs.Tree.{Dimension, Entry, IsTree, are_distinct, entry_of, is_leaf, is_under, leaves, node_lines, parent, place_of}
use Rattle.cube_model.specs.Cells.{leaf_places}
use Rattle.cube_model.specs.Cut.{first_child, in_cut, next_sibling}
use Rattle.cube_model.specs.Limits.{MAX_DEPTH}
use Rattle.dim_tree.specs.declared.node.Node.{Node}
use Rattle.dim_tree.specs.Outline.{IsOutline}
use Rattle.dim_tree.specs.Places.{parents_from, ends_from, leaf_counts_from, leaves_from}

-- a node
abbrev pub entry : ℕ → List ℕ → ℕ → Entry
entry depth name number = record { depth = depth; name = name; number = number }

-- what is kept for the node at a place
abbrev pub node_at : List ℕ → List ℕ → ℕ → Node
node_at depths numbers i = record {
  depth = slice_index depths i;
  number = slice_index numbers i;
  parent = slice_index numbers (slice_index (parents_from [] depths) i);
  end = slice_index (ends_from 0 depths) i;
  first_leaf = slice_index (leaf_counts_from 0 depths) i;
  leaves_end = slice_index (leaf_counts_from 0 depths) (slice_index (ends_from 0 depths) i);
}

-- the same for all nodes
abbrev pub nodes_of : List ℕ → List ℕ → List Node
nodes_of depths numbers = map (node_at depths numbers) (range_with_len 0 (length depths))

-- the depths of the nodes
abbrev pub depths_kept : List Node → List ℕ
depths_kept nodes = map (λ node. node.depth) nodes

-- and their numbers
abbrev pub numbers_kept : List Node → List ℕ
numbers_kept nodes = map (λ node. node.number) nodes

-- whether numbers are distinct and below their count
abbrev pub are_numbers : List ℕ → Bool
are_numbers numbers = are_distinct numbers && list_all (λ n. nat_lt n (length numbers)) numbers

-- whether the number at a place, but for the first, is above that at the place of its parent
abbrev pub is_above : List ℕ → List ℕ → ℕ → Bool
is_above numbers parents i = i == 0 || nat_lt (slice_index numbers (slice_index parents i)) (slice_index numbers i)

-- whether all are
abbrev pub are_above : List ℕ → List ℕ → Bool
are_above numbers parents = list_all (is_above numbers parents) (range_with_len 0 (length numbers))

-- whether numbers are those of an order in which the nodes of these depths may have been made
abbrev pub are_in_order : List ℕ → List ℕ → Bool
are_in_order numbers depths = are_numbers numbers && are_above numbers (parents_from [] depths)

-- for each number below the count of the numbers its place among them
pub record ArePlaces (numbers places : List ℕ) : Type 0 where
  pub same_length : length places ≡ length numbers
  pub found : (number : ℕ) → number < length numbers → position (λ n. n == number) numbers ≡ Some (slice_index places number)

-- together with what is kept beside the depths, the names and the numbers
pub record IsIndexed (nodes : List Node) (names : List (List ℕ)) (places kept_leaves : List ℕ) : Type 0 where
  pub outline : IsOutline (depths_kept nodes) names (numbers_kept nodes)
  pub of_nodes : nodes ≡ nodes_of (depths_kept nodes) (numbers_kept nodes)
  pub of_places : ArePlaces (numbers_kept nodes) places
  pub of_leaves : kept_leaves ≡ leaves_from 0 (depths_kept nodes)

-- the place after the last node under the one at a place
abbrev pub node_end : Dimension → ℕ → ℕ
node_end dim i = slice_index (ends_from 0 (map (λ line. line.depth) (node_lines dim))) i

-- what is kept for the node of number n, which stands at place i, answers for it
pub record IsNode (dim : Dimension) (n i : ℕ) (node : Node) : Type 0 where
  pub of_tree : IsTree dim
  pub depth_is : option_map (λ e. e.depth) (entry_of dim n) ≡ Some node.depth
  pub depth_most : node.depth ≤ MAX_DEPTH
  pub number_is : node.number ≡ n
  pub parent_is : parent dim n ≡ (if n == 0 then None else Some node.parent)
  pub parent_within : node.parent < length dim
  pub parent_below : 0 < n → node.parent < n
  pub end_is : node.end ≡ node_end dim i
  pub end_above : i < node.end
  pub end_within : node.end ≤ length dim
  pub leaf_is : is_leaf dim n ≡ (node.end == i + 1)
  pub under_is : (x j : ℕ) → place_of dim x ≡ Some j → is_under dim x n ≡ (nat_le i j && nat_lt j node.end)
  pub child_is : first_child dim n ≡ (if node.end == i + 1 then None else option_map (λ e. e.number) (slice_get dim (i + 1)))
  pub sibling_is : (j : ℕ) → place_of dim node.parent ≡ Some j → next_sibling dim n ≡ (if nat_lt node.end (node_end dim j) then option_map (λ e. e.number) (slice_get dim node.end) else None)
  pub cut_is : (depth : ℕ) → option_map (in_cut dim depth) (entry_of dim n) ≡ Some (node.depth == depth || (nat_lt node.depth depth && is_leaf dim n))
  pub range_is : leaf_places dim n ≡ range_with_len node.first_leaf (node.leaves_end - node.first_leaf)
  pub range_some : node.first_leaf < node.leaves_end
  pub range_within : node.leaves_end ≤ length (leaves dim)
