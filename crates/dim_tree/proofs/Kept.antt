-- What is kept of a dimension answers the questions about it.
use Rattle.std.proofs.Common.{◌≡◌, ℕ, ◌<◌, ◌≤◌, List, length, map, get_or, slice_get, Some, option_map, ◌==◌, sym, ap, ◌∙◌, subst, arith}
use Rattle.std.proofs.lemmas.List.{length-map, get_or_read}
use Rattle.std.proofs.lemmas.List.FromFn.{get_or-map-range_with_len}
use Rattle.std.proofs.lemmas.Option.{slice_get-map, slice_get-get_or}
use Rattle.cube_model.specs.declared.tree.NodeLine.{NodeLine}
use Rattle.cube_model.specs.Limits.{MAX_NODES}
use Rattle.cube_model.specs.Tree.{Dimension, Entry, IsTree, numbers, node_lines, entry_of, leaves, place_of}
use Rattle.dim_tree.specs.declared.node.Node.{Node}
use Rattle.dim_tree.specs.Nodes.{ArePlaces, IsIndexed, IsNode, depths_kept, node_at, numbers_kept}
use Rattle.dim_tree.specs.Outline.{outline_nodes}
use Rattle.dim_tree.specs.Places.{leaves_from}
use Rattle.dim_tree.proofs.Climbing.{depths_of}
use Rattle.dim_tree.proofs.Entries.{length-node_lines}
use Rattle.dim_tree.proofs.Leaves.{leaves-places, leaves_from-within, length-leaves_from}
use Rattle.dim_tree.proofs.Numbers.{at_within}
use Rattle.dim_tree.proofs.Outlines.{depths_of-entries_of, length-entries_of, names-entries_of, numbers-entries_of, tree_fault_none}
use Rattle.dim_tree.proofs.Queries.{node_is}
use Rattle.dim_tree.proofs.Renaming.{position-map}
use Rattle.dim_tree.proofs.Renumbering.{AreNumbers_of, accepted_lines, entry_of-number_at, leaves-number_at, length-numbers, number_at, number_at-place, number_at-read, number_at-within, place_at-root, place_of-place_at, some_node}

-- What is kept of a dimension answers for it.
pub record KeptFor (dim : Dimension) (nodes : List Node) (names : List (List ℕ)) (places kept_leaves : List ℕ) : Type 0 where
  pub tree : IsTree dim
  pub some : 0 < length dim
  pub few : length dim ≤ MAX_NODES
  pub room_nodes : length nodes ≡ length dim
  pub room_names : length names ≡ length dim
  pub room_places : length places ≡ length dim
  pub names_are : map (λ e. e.name) dim ≡ names
  pub node_kept : (n i : ℕ) (node : Node) → node ≡ get_or nodes i node → place_of dim n ≡ Some i → IsNode dim n i node
  pub number_kept : (i : ℕ) (node : Node) → i < length dim → node ≡ get_or nodes i node → (option_map (λ e. e.number) (slice_get dim i) ≡ Some node.number) × (node.number < length dim)
  pub place_kept : (n : ℕ) → n < length dim → (place_of dim n ≡ Some (get_or places n 0)) × (get_or places n 0 < length dim)
  pub name_kept : (n i : ℕ) → place_of dim n ≡ Some i → (option_map (λ e. e.name) (entry_of dim n) ≡ slice_get names i) × (i < length dim)
  pub leaf_kept : (i : ℕ) → i < length (leaves dim) → (slice_get (leaves dim) i ≡ option_map (λ e. e.number) (slice_get dim (get_or kept_leaves i 0))) × (get_or kept_leaves i 0 < length dim)
  pub leaves_count : length kept_leaves ≡ length (leaves dim)
  pub leaves_some : 0 < length (leaves dim)
  pub leaves_few : length (leaves dim) ≤ length dim

module _ (dim : Dimension) (tree : IsTree dim) where
  -- the depths in preorder
  abbrev depths : List ℕ
  depths = depths_of (node_lines dim)

  few : length depths ≡ length dim
  few = length-map (node_lines dim) (λ (line : NodeLine). line.depth) ∙ length-node_lines dim

  -- the leaves are the nodes at the places of the leaves
  leaves_are : leaves dim ≡ map (number_at dim) (leaves_from 0 depths)
  leaves_are = leaves-number_at dim (AreNumbers_of dim tree) ∙ ap (map (number_at dim)) (leaves-places (node_lines dim) (accepted_lines dim tree))

  pub leaves_counted : length (leaves_from 0 depths) ≡ length (leaves dim)
  leaves_counted = sym (length-map (leaves_from 0 depths) (number_at dim)) ∙ ap length (sym leaves_are)

  leaf_read : (i : ℕ) → i < length (leaves dim) → (slice_get (leaves dim) i ≡ option_map (λ e. e.number) (slice_get dim (get_or (leaves_from 0 depths) i 0))) × (get_or (leaves_from 0 depths) i 0 < length dim)
  leaf_read i within =
      let inside : i < length (leaves_from 0 depths) = omega (arith, leaves_counted) in
      let room : get_or (leaves_from 0 depths) i 0 < length dim = omega (arith, few, leaves_from-within 0 depths i inside) in
      (ap (λ ls. slice_get ls i) leaves_are ∙ slice_get-map (number_at dim) (leaves_from 0 depths) i ∙ ap (option_map (number_at dim)) (slice_get-get_or (leaves_from 0 depths) i 0 inside) ∙ sym (number_at-read dim (get_or (leaves_from 0 depths) i 0) room), room)

  -- there is a leaf: one under the root
  some_leaf : 0 < length (leaves dim)
  some_leaf =
      let root = node_is dim tree 0 0 (place_of-place_at dim (AreNumbers_of dim tree) 0 (some_node dim tree) ∙ ap Some (place_at-root dim tree)) in
      omega (arith, root.range_some, root.range_within)

  few_leaves : length (leaves dim) ≤ length dim
  few_leaves = omega (arith, leaves_counted, few, length-leaves_from 0 depths)

  few_nodes : length dim ≤ MAX_NODES
  few_nodes = omega (arith, length-node_lines dim, (tree_fault_none (node_lines dim) tree.accepted).1)

  -- the name of a node, by its place
  name_read : (n i : ℕ) → place_of dim n ≡ Some i → option_map (λ e. e.name) (entry_of dim n) ≡ slice_get (map (λ e. e.name) dim) i
  name_read n i found =
      ap (λ m. option_map (λ (e : Entry). e.name) (entry_of dim m)) (sym (number_at-place dim (AreNumbers_of dim tree) n i found).0) ∙ ap (option_map (λ (e : Entry). e.name)) (entry_of-number_at dim (AreNumbers_of dim tree) i) ∙ sym (slice_get-map (λ (e : Entry). e.name) dim i)

-- a place that is kept for a number is that of its node
place_read : (dim : Dimension) (places : List ℕ) → IsTree dim → ArePlaces (numbers dim) places → (n : ℕ) → n < length dim → (place_of dim n ≡ Some (get_or places n 0)) × (get_or places n 0 < length dim)
place_read dim places tree are n within =
    let found : place_of dim n ≡ Some (get_or places n 0) = sym (position-map (λ m. m == n) (λ (e : Entry). e.number) dim) ∙ are.found n (omega (arith, length-numbers dim)) in
    (found, (number_at-place dim (AreNumbers_of dim tree) n (get_or places n 0) found).1)

-- so what is kept answers for a dimension that it is kept for
pub kept : {dim : Dimension} {nodes : List Node} {names : List (List ℕ)} {places kept_leaves : List ℕ} → IsIndexed nodes names places kept_leaves → outline_nodes (depths_kept nodes) names (numbers_kept nodes) ≡ dim → KeptFor dim nodes names places kept_leaves
kept {dim} {nodes} {names} {places} {kept_leaves} indexed view_is =
    let outline = indexed.outline in
    let made : Dimension = outline_nodes (depths_kept nodes) names (numbers_kept nodes) in
    let tree : IsTree made = outline.tree in
    let long : length made ≡ length nodes = length-entries_of (depths_kept nodes) names (numbers_kept nodes) outline.same_names outline.same_numbers ∙ length-map nodes (λ (node : Node). node.depth) in
    let depths_are : depths_of (node_lines made) ≡ depths_kept nodes = depths_of-entries_of (depths_kept nodes) names (numbers_kept nodes) outline.same_names outline.same_numbers in
    let numbers_are : numbers made ≡ numbers_kept nodes = numbers-entries_of (depths_kept nodes) names (numbers_kept nodes) outline.same_names outline.same_numbers in
    let named : map (λ (e : Entry). e.name) made ≡ names = names-entries_of (depths_kept nodes) names (numbers_kept nodes) outline.same_names outline.same_numbers in
    let count : length (depths_kept nodes) ≡ length nodes = length-map nodes (λ (node : Node). node.depth) in
    let leaves_of : kept_leaves ≡ leaves_from 0 (depths_of (node_lines made)) = indexed.of_leaves ∙ ap (leaves_from 0) (sym depths_are) in
    let at_place : (i : ℕ) (node : Node) → i < length made → node ≡ get_or nodes i node → node ≡ node_at (depths_of (node_lines made)) (numbers made) i = λ i node within is.
    let inside : i < length (depths_kept nodes) = omega (arith, long, count) in
    is ∙ ap (λ ns. get_or ns i node) indexed.of_nodes ∙ get_or-map-range_with_len (node_at (depths_kept nodes) (numbers_kept nodes)) 0 (length (depths_kept nodes)) i i node inside (omega arith) ∙ ap (λ ds. node_at ds (numbers_kept nodes) i) (sym depths_are) ∙ ap (λ ns. node_at (depths_of (node_lines made)) ns i) (sym numbers_are) in
    subst (λ d. KeptFor d nodes names places kept_leaves) view_is (record {
      tree = tree;
      some = some_node made tree;
      few = few_nodes made tree;
      room_nodes = sym long;
      room_names = outline.same_names ∙ count ∙ sym long;
      room_places = indexed.of_places.same_length ∙ length-map nodes (λ (node : Node). node.number) ∙ sym long;
      names_are = named;
      node_kept = λ n i node is found.
          let within : i < length made = (number_at-place made (AreNumbers_of made tree) n i found).1 in
          subst (λ x. IsNode made n i x) (sym (at_place i node within is)) (node_is made tree n i found);
      number_kept = λ i node within is.
          let number : number_at made i ≡ node.number = at_within (numbers made) i (omega (arith, length-numbers made)) ∙ ap (λ (x : Node). x.number) (sym (at_place i node within is)) in
          (number_at-read made i within ∙ ap Some number, omega (arith, number, number_at-within made (AreNumbers_of made tree) i within));
      place_kept = place_read made places tree (subst (λ ns. ArePlaces ns places) (sym numbers_are) indexed.of_places);
      name_kept = λ n i found. (name_read made tree n i found ∙ ap (λ ns. slice_get ns i) named, (number_at-place made (AreNumbers_of made tree) n i found).1);
      leaf_kept = subst (λ ls. (i : ℕ) → i < length (leaves made) → (slice_get (leaves made) i ≡ option_map (λ (e : Entry). e.number) (slice_get made (get_or ls i 0))) × (get_or ls i 0 < length made)) (sym leaves_of) (leaf_read made tree);
      leaves_count = ap length leaves_of ∙ leaves_counted made tree;
      leaves_some = some_leaf made tree;
      leaves_few = few_leaves made tree;
    })

-- an item that was read is the one there, whatever stands for none
pub item_read : (xs : List ℕ) (i x : ℕ) {n : ℕ} → length xs ≡ n → i < n → x ≡ get_or xs i x → x ≡ get_or xs i 0
item_read xs i x {n} room within is = get_or_read xs i x (omega arith) is 0
