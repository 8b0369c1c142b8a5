-- What is kept of a dimension is made of its lines.
use Rattle.std.proofs.Common.{Bool, ◌&&◌, nat_lt, suc, ◌≡◌, ℕ, ◌+◌, ◌<◌, ◌≤◌, true, false, List, [], length, get_or, map, Option, Some, None, ◌⊎◌, ◌∷◌, nat_le, if◌then◌else◌, refl, sym, ap, ◌∙◌, subst, arith}
use Rattle.std.specs.List.{list_all, range_with_len}
use Rattle.std.specs.Option.{option_or}
use Rattle.std.proofs.lemmas.Bool.Decides.{nat_tests}
use Rattle.std.proofs.lemmas.List.{ext_get_or, length-map}
use Rattle.std.proofs.lemmas.List.FromFn.{get_or-map-range_with_len, length-map-range_with_len, length-range_with_len}
use Rattle.cube_base.specs.Name.{is_name}
use Rattle.cube_model.specs.declared.tree.NodeLine.{NodeLine}
use Rattle.cube_model.specs.declared.tree.DimFault.{DimFault}
use Rattle.cube_model.specs.declared.tree.DimFault.TheVariants.{Empty, Many, Number}
use Rattle.cube_model.specs.Limits.{MAX_DEPTH, MAX_NODES}
use Rattle.cube_model.specs.Tree.{Dimension, Entry, IsTree, dim_fault, first_fault, is_numbered, line_fault, node_lines, numbered, numbers, tree_fault}
use Rattle.dim_tree.specs.declared.node.Node.{Node}
use Rattle.dim_tree.specs.Nodes.{ArePlaces, are_above, are_in_order, are_numbers, IsIndexed, depths_kept, node_at, nodes_of, numbers_kept}
use Rattle.dim_tree.specs.Outline.{IsOutline, outline_nodes}
use Rattle.dim_tree.specs.Places.{leaves_from, parents_from}
use Rattle.dim_tree.proofs.Climbing.{depths_of, together}
use Rattle.dim_tree.proofs.Entries.{length-node_lines}
use Rattle.dim_tree.proofs.Outlines.{all_names-node_lines, all_names-numbered_from, depths_of-entries_of, entries_of_map, entries_of_range, length-entries_of, node_lines-numbered_from, numbers-entries_of, tree_fault_first, tree_fault_none}
use Rattle.dim_tree.proofs.Parents.{length-parents_from}
use Rattle.dim_tree.proofs.Placing.{is_numbered_above, is_numbered_not, parents_from-within}
use Rattle.dim_tree.proofs.Renaming.{map-map}
use Rattle.dim_tree.proofs.Renumbering.{accepted_lines, is_numbered-numbered}
use Rattle.dim_tree.proofs.Rising.{first_fault-shallow}

-- a list is read item by item
read_all : (xs : List ℕ) (n : ℕ) → length xs ≡ n → map (λ i. get_or xs i 0) (range_with_len 0 n) ≡ xs
read_all xs n long =
    ext_get_or 0 (map (λ i. get_or xs i 0) (range_with_len 0 n)) xs (length-map-range_with_len (λ i. get_or xs i 0) 0 n ∙ sym long) (λ i within.
    let small : i < n = omega (arith, length-map-range_with_len (λ i. get_or xs i 0) 0 n) in
    get_or-map-range_with_len (λ i. get_or xs i 0) 0 n i i 0 small (omega arith))

-- the depths and the numbers of what is kept are those that it is made of
depths_kept-nodes_of : (depths ns : List ℕ) → depths_kept (nodes_of depths ns) ≡ depths
depths_kept-nodes_of depths ns = map-map (λ (node : Node). node.depth) (node_at depths ns) (range_with_len 0 (length depths)) ∙ read_all depths (length depths) refl

numbers_kept-nodes_of : (depths ns : List ℕ) → length ns ≡ length depths → numbers_kept (nodes_of depths ns) ≡ ns
numbers_kept-nodes_of depths ns same = map-map (λ (node : Node). node.number) (node_at depths ns) (range_with_len 0 (length depths)) ∙ read_all ns (length depths) same

module _ (depths : List ℕ) (names : List (List ℕ)) (ns : List ℕ) (outline : IsOutline depths names ns) where
  -- few nodes, none of them deep
  pub outline_few : length depths ≤ MAX_NODES
  outline_few =
      let made = outline_nodes depths names ns in
      omega (arith, (tree_fault_none (node_lines made) outline.tree.accepted).1, length-map made (λ (e : Entry). let line : NodeLine = record { depth = e.depth; name = e.name } in line), length-entries_of depths names ns outline.same_names outline.same_numbers)

  pub outline_shallow : list_all (λ depth. nat_le depth MAX_DEPTH) depths ≡ true
  outline_shallow =
      let made = outline_nodes depths names ns in
      ap (list_all (λ depth. nat_le depth MAX_DEPTH)) (sym (depths_of-entries_of depths names ns outline.same_names outline.same_numbers)) ∙ first_fault-shallow [] 0 (node_lines made) (accepted_lines made outline.tree)

  -- the nodes that are kept give the dimension back
  pub outline_nodes-nodes_of : (nodes : List Node) → nodes ≡ nodes_of depths ns → outline_nodes (depths_kept nodes) names (numbers_kept nodes) ≡ outline_nodes depths names ns
  outline_nodes-nodes_of nodes made =
      ap (λ xs. outline_nodes (depths_kept xs) names (numbers_kept xs)) made ∙ ap (λ ds. outline_nodes ds names (numbers_kept (nodes_of depths ns))) (depths_kept-nodes_of depths ns) ∙ ap (outline_nodes depths names) (numbers_kept-nodes_of depths ns outline.same_numbers)

  -- and are indexed
  pub IsIndexed_of : (nodes : List Node) (places kept_leaves : List ℕ) → nodes ≡ nodes_of depths ns → ArePlaces ns places → kept_leaves ≡ leaves_from 0 depths → IsIndexed nodes names places kept_leaves
  IsIndexed_of nodes places kept_leaves made placed leaves_are =
      let depths_are : depths ≡ depths_kept nodes = sym (ap depths_kept made ∙ depths_kept-nodes_of depths ns) in
      let numbers_are : ns ≡ numbers_kept nodes = sym (ap numbers_kept made ∙ numbers_kept-nodes_of depths ns outline.same_numbers) in
      let of_outline : IsOutline (depths_kept nodes) names (numbers_kept nodes) = subst (λ ds. IsOutline ds names (numbers_kept nodes)) depths_are (subst (λ xs. IsOutline depths names xs) numbers_are outline) in
      record {
        outline = of_outline;
        of_nodes = made ∙ ap (λ ds. nodes_of ds ns) depths_are ∙ ap (nodes_of (depths_kept nodes)) numbers_are;
        of_places = subst (λ xs. ArePlaces xs places) numbers_are placed;
        of_leaves = leaves_are ∙ ap (leaves_from 0) depths_are;
      }

-- accepted lines with their places as numbers are a tree
pub IsTree_numbered : (lines : List NodeLine) → tree_fault lines ≡ None → list_all (λ line. is_name line.name) lines ≡ true → IsTree (numbered lines)
IsTree_numbered lines accepted named = record {
  accepted = ap tree_fault (node_lines-numbered_from 0 lines) ∙ accepted;
  numbered = is_numbered-numbered lines (tree_fault_none lines accepted).2;
  names = all_names-numbered_from 0 lines ∙ named;
}

module _ (lines : List NodeLine) (depths : List ℕ) (names : List (List ℕ)) (depths_are : depths ≡ map (λ line. line.depth) lines) (names_are : names ≡ map (λ line. line.name) lines) where
  -- the dimension of the depths and the names of lines
  pub entries_of_lines : outline_nodes depths names (range_with_len 0 (length lines)) ≡ numbered lines
  entries_of_lines = ap (λ ds. outline_nodes ds names (range_with_len 0 (length lines))) depths_are ∙ ap (λ ns. outline_nodes (map (λ (line : NodeLine). line.depth) lines) ns (range_with_len 0 (length lines))) names_are ∙ entries_of_range 0 lines

  -- they are a tree where the lines are
  pub IsOutline_lines : tree_fault lines ≡ None → list_all (λ line. is_name line.name) lines ≡ true → IsOutline depths names (range_with_len 0 (length lines))
  IsOutline_lines accepted named =
      let count : length depths ≡ length lines = ap length depths_are ∙ length-map lines (λ (line : NodeLine). line.depth) in
      record {
        same_names = ap length names_are ∙ length-map lines (λ (line : NodeLine). line.name) ∙ sym count;
        same_numbers = length-range_with_len 0 (length lines) ∙ sym count;
        tree = subst IsTree (sym entries_of_lines) (IsTree_numbered lines accepted named);
      }

-- the depths and the names of the lines of nodes are theirs
pub depths_of_entries : (dim : Dimension) → depths_of (node_lines dim) ≡ map (λ e. e.depth) dim
depths_of_entries dim = map-map (λ (line : NodeLine). line.depth) (λ (e : Entry). let line : NodeLine = record { depth = e.depth; name = e.name } in line) dim

names_of_entries : (dim : Dimension) → map (λ line. line.name) (node_lines dim) ≡ map (λ e. e.name) dim
names_of_entries dim = map-map (λ (line : NodeLine). line.name) (λ (e : Entry). let line : NodeLine = record { depth = e.depth; name = e.name } in line) dim

module _ (dim : Dimension) (depths : List ℕ) (names : List (List ℕ)) (ns : List ℕ) (depths_are : depths ≡ map (λ e. e.depth) dim) (names_are : names ≡ map (λ line. line.name) (node_lines dim)) (numbers_are : ns ≡ numbers dim) where
  -- the depths are those of the lines of the nodes
  pub depths_of_numbered : depths ≡ depths_of (node_lines dim)
  depths_of_numbered = depths_are ∙ sym (depths_of_entries dim)

  -- the dimension of the depths, the names and the numbers of nodes
  pub entries_of_entries : outline_nodes depths names ns ≡ dim
  entries_of_entries =
      ap (λ ds. outline_nodes ds names ns) depths_are ∙ ap (λ xs. outline_nodes (map (λ (e : Entry). e.depth) dim) xs ns) (names_are ∙ names_of_entries dim) ∙ ap (outline_nodes (map (λ (e : Entry). e.depth) dim) (map (λ (e : Entry). e.name) dim)) numbers_are ∙ entries_of_map dim

  -- they are a tree where the nodes are
  pub IsOutline_entries : tree_fault (node_lines dim) ≡ None → list_all (λ line. is_name line.name) (node_lines dim) ≡ true → is_numbered dim ≡ true → IsOutline depths names ns
  IsOutline_entries accepted named ordered =
      let count : length depths ≡ length dim = ap length depths_are ∙ length-map dim (λ (e : Entry). e.depth) in
      record {
        same_names = ap length (names_are ∙ names_of_entries dim) ∙ length-map dim (λ (e : Entry). e.name) ∙ sym count;
        same_numbers = ap length numbers_are ∙ length-map dim (λ (e : Entry). e.number) ∙ sym count;
        tree = subst IsTree (sym entries_of_entries) (record { accepted = accepted; numbered = ordered; names = sym (all_names-node_lines dim) ∙ named });
      }

-- a fault of the lines is one of the nodes
pub dim_fault_lines : (dim : Dimension) (fault : DimFault) → tree_fault (node_lines dim) ≡ Some fault → dim_fault dim ≡ Some fault
unfolding dim_fault
dim_fault_lines dim fault is = ap (λ o. option_or o (if is_numbered dim then None else Some Number)) is

-- and so is the first fault of nodes that are some and few
pub dim_fault_first : (dim : Dimension) (fault : DimFault) → 0 < length dim → length dim ≤ MAX_NODES → first_fault [] 0 (node_lines dim) ≡ Some fault → dim_fault dim ≡ Some fault
dim_fault_first dim fault some few is = dim_fault_lines dim fault (tree_fault_first (node_lines dim) (omega (arith, length-node_lines dim)) (omega (arith, length-node_lines dim)) ∙ is)

-- else their numbers decide
pub dim_fault_numbers : (dim : Dimension) → tree_fault (node_lines dim) ≡ None → dim_fault dim ≡ (if is_numbered dim then None else Some Number)
unfolding dim_fault
dim_fault_numbers dim accepted = ap (λ o. option_or o (if is_numbered dim then None else Some Number)) accepted

-- some nodes that are few and whose lines are accepted are a tree
pub lines_accepted : (dim : Dimension) → 0 < length dim → length dim ≤ MAX_NODES → first_fault [] 0 (node_lines dim) ≡ None → tree_fault (node_lines dim) ≡ None
lines_accepted dim some few accepted = tree_fault_first (node_lines dim) (omega (arith, length-node_lines dim)) (omega (arith, length-node_lines dim)) ∙ accepted

-- no line is refused for the count of all
line_fault_not : (earlier : List NodeLine) (k : ℕ) (line : NodeLine) (fault : DimFault) → (fault ≡ Empty) ⊎ (fault ≡ Many) → line_fault earlier k line ≡ Some fault → ⊥
line_fault_not [] k line fault count is = grind (arith, nat_tests)
line_fault_not (before ∷ earlier) k line fault count is = grind (arith, nat_tests)

first_fault_not : (earlier : List NodeLine) (k : ℕ) (lines : List NodeLine) (fault : DimFault) → (fault ≡ Empty) ⊎ (fault ≡ Many) → first_fault earlier k lines ≡ Some fault → ⊥
first_fault_not earlier k [] fault count is = absurd (cc is)
first_fault_not earlier k (line ∷ lines) fault count is = grind (arith, line_fault_not earlier k line fault count, first_fault_not (line ∷ earlier) (k + 1) lines fault count)

-- so few lines that are some are not
pub count_accepted : (lines : List NodeLine) (fault : DimFault) → 0 < length lines → length lines ≤ MAX_NODES → (fault ≡ Empty) ⊎ (fault ≡ Many) → tree_fault lines ≡ Some fault → ⊥
count_accepted lines fault some few count is = first_fault_not [] 0 lines fault count (sym (tree_fault_first lines some few) ∙ is)

-- nor are nodes, whose numbers are refused for another reason
pub count_accepted_dim : (dim : Dimension) (fault : DimFault) → 0 < length dim → length dim ≤ MAX_NODES → (fault ≡ Empty) ⊎ (fault ≡ Many) → dim_fault dim ≡ Some fault → ⊥
unfolding dim_fault
count_accepted_dim dim fault some few count is = grind (arith, length-node_lines dim, count_accepted (node_lines dim) fault)

-- one count is refused for one reason
pub count_apart : (cause : Option DimFault) → cause ≡ Some Empty → cause ≡ Some Many → ⊥
count_apart cause none many = cc

-- the depths of nodes whose lines are accepted
pub entries_shallow : (dim : Dimension) → first_fault [] 0 (node_lines dim) ≡ None → list_all (λ depth. nat_le depth MAX_DEPTH) (map (λ e. e.depth) dim) ≡ true
entries_shallow dim accepted = ap (list_all (λ depth. nat_le depth MAX_DEPTH)) (sym (depths_of_entries dim)) ∙ first_fault-shallow [] 0 (node_lines dim) accepted

-- a test passes all items that it passes one by one
all_at : (p : ℕ → Bool) (xs : List ℕ) → ((i : ℕ) → i < length xs → p (get_or xs i 0) ≡ true) → list_all p xs ≡ true
all_at p [] passes = refl
all_at p (x ∷ xs) passes = together (passes 0 (omega arith)) (all_at p xs (λ i within. passes (suc i) (omega arith)))

-- the places of parents are as many as the numbers, and below their count
pub parents_counted : (depths ns : List ℕ) → length ns ≡ length depths → length (parents_from [] depths) ≡ length ns
parents_counted depths ns same = length-parents_from [] depths ∙ sym same

pub parents_small : (depths ns : List ℕ) → length ns ≡ length depths → list_all (λ parent. nat_lt parent (length ns)) (parents_from [] depths) ≡ true
parents_small depths ns same =
    all_at (λ parent. nat_lt parent (length ns)) (parents_from [] depths) (λ i within.
    let small : get_or (parents_from [] depths) i 0 < length ns = omega (arith, same, parents_from-within depths i (omega (arith, length-parents_from [] depths))) in
    grind (arith, nat_tests, small))

-- a test by which something is refused
refused_by : (b : Bool) (fault : DimFault) → (if b then None else Some Number) ≡ Some fault → (b ≡ false) × (Number ≡ fault)
refused_by true fault is = absurd (cc is)
refused_by false fault is = (refl, cc is)

-- numbers that are not distinct or not below their count are in no order
pub order_refused : (ns depths : List ℕ) (fault : DimFault) → (if are_numbers ns then None else Some Number) ≡ Some fault → (if are_in_order ns depths then None else Some Number) ≡ Some fault
order_refused ns depths fault is =
    let told = refused_by (are_numbers ns) fault is in
    ap (λ b. if b && are_above ns (parents_from [] depths) then None else Some Number) told.0 ∙ ap Some told.1

-- the others are in order by the places of the parents
pub order_of_numbers : (ns depths parents : List ℕ) (ordered : Bool) → are_numbers ns ≡ true → parents ≡ parents_from [] depths → ordered ≡ are_above ns parents → are_in_order ns depths ≡ ordered
order_of_numbers ns depths parents ordered told parents_are above = ap (λ b. b && are_above ns (parents_from [] depths)) told ∙ ap (are_above ns) (sym parents_are) ∙ sym above

-- what refuses numbers that are in no order
pub order_fault : (ns depths : List ℕ) → are_in_order ns depths ≡ false → (if are_in_order ns depths then None else Some Number) ≡ Some Number
order_fault ns depths told = ap (λ b. if b then None else Some Number) told

-- the numbers of nodes whose lines are accepted are judged by their order
in_order : (dim : Dimension) → first_fault [] 0 (node_lines dim) ≡ None → is_numbered dim ≡ are_in_order (numbers dim) (depths_of (node_lines dim))
in_order dim accepted =
    elim (are_numbers (numbers dim)) as (λ b. are_numbers (numbers dim) ≡ b → is_numbered dim ≡ (b && are_above (numbers dim) (parents_from [] (depths_of (node_lines dim))))) [ true ↦ is_numbered_above dim accepted | false ↦ is_numbered_not dim ] refl

-- and so are the lists that were made of them
pub numbers_judged : (dim : Dimension) (depths ns : List ℕ) → depths ≡ map (λ e. e.depth) dim → ns ≡ numbers dim → first_fault [] 0 (node_lines dim) ≡ None → is_numbered dim ≡ are_in_order ns depths
numbers_judged dim depths ns depths_are numbers_are accepted = in_order dim accepted ∙ ap (are_in_order (numbers dim)) (depths_of_entries dim ∙ sym depths_are) ∙ ap (λ xs. are_in_order xs depths) (sym numbers_are)

-- which decides on the fault
pub numbers_fault : (dim : Dimension) (depths ns : List ℕ) → depths ≡ map (λ e. e.depth) dim → ns ≡ numbers dim → 0 < length dim → length dim ≤ MAX_NODES → first_fault [] 0 (node_lines dim) ≡ None → dim_fault dim ≡ (if are_in_order ns depths then None else Some Number)
numbers_fault dim depths ns depths_are numbers_are some few accepted =
    dim_fault_numbers dim (lines_accepted dim some few accepted) ∙ ap (λ b. if b then None else Some Number) (numbers_judged dim depths ns depths_are numbers_are accepted)

-- nodes of a tree are in order
pub order_of_outline : (depths : List ℕ) (names : List (List ℕ)) (ns : List ℕ) → IsOutline depths names ns → are_in_order ns depths ≡ true
order_of_outline depths names ns outline =
    let made : Dimension = outline_nodes depths names ns in
    let depths_are : depths ≡ map (λ (e : Entry). e.depth) made = sym (depths_of-entries_of depths names ns outline.same_names outline.same_numbers) ∙ depths_of_entries made in
    sym (numbers_judged made depths ns depths_are (sym (numbers-entries_of depths names ns outline.same_names outline.same_numbers)) (accepted_lines made outline.tree)) ∙ outline.tree.numbered
