-- A dimension made of its depths, its names and its numbers.
use Rattle.std.proofs.Common.{Bool, false, ◌==◌, ◌≡◌, ℕ, ◌+◌, ◌<◌, ◌≤◌, ◌&&◌, List, [], ◌∷◌, length, map, slice_get, option_map, Some, None, position, string_bytes, String, zero, suc, refl, sym, ap, ◌∙◌, arith}
use Rattle.std.specs.List.{AllZip, find, list_all, position_from, range_with_len}
use Rattle.std.specs.Str.{bytes_eq}
use Rattle.std.proofs.lemmas.Bool.Decides.{nat_tests}
use Rattle.std.proofs.lemmas.Iterator.Adapters.{position_from-zero}
use Rattle.std.proofs.lemmas.List.{length-map}
use Rattle.cube_base.specs.Name.{is_name}
use Rattle.cube_model.specs.declared.tree.NodeLine.{NodeLine}
use Rattle.cube_model.specs.declared.tree.DimFault.TheVariants.{Empty, Many}
use Rattle.cube_model.specs.Limits.{MAX_NODES}
use Rattle.cube_model.specs.Tree.{Dimension, Entry, tree_fault, first_fault, numbers, numbered_from, node_lines, node_named}
use Rattle.dim_tree.specs.Outline.{outline_nodes}
use Rattle.dim_tree.proofs.Climbing.{depths_of}
use Rattle.dim_tree.proofs.Entries.{length-node_lines}
use Rattle.dim_tree.proofs.Judging.{bytes_eq_comm}
use Rattle.dim_tree.proofs.Renaming.{position_from-map}

-- no line
pub tree_fault_empty : (lines : List NodeLine) → length lines ≡ 0 → tree_fault lines ≡ Some Empty
unfolding tree_fault
tree_fault_empty lines none = grind (arith, nat_tests)

-- too many lines
pub tree_fault_many : (lines : List NodeLine) → MAX_NODES < length lines → tree_fault lines ≡ Some Many
unfolding tree_fault
tree_fault_many lines many = grind (arith, nat_tests)

-- what `is_empty` denies
pub some_line : {X : Type 0} (lines : List X) (empty : Bool) → empty ≡ (length lines == 0) → empty ≡ false → 0 < length lines
some_line lines empty is some = grind (arith, nat_tests)

-- otherwise the first faulty line
pub tree_fault_first : (lines : List NodeLine) → 0 < length lines → length lines ≤ MAX_NODES → tree_fault lines ≡ first_fault [] 0 lines
unfolding tree_fault
tree_fault_first lines some few = grind (arith, nat_tests)

-- a tree has 1 to 65,536 lines
pub tree_fault_none : (lines : List NodeLine) → tree_fault lines ≡ None → (0 < length lines) × (length lines ≤ MAX_NODES) × (first_fault [] 0 lines ≡ None)
unfolding tree_fault
tree_fault_none lines accepted = grind (arith, nat_tests)

-- there are as many nodes as lines
pub length-numbered_from : (k : ℕ) (lines : List NodeLine) → length (numbered_from k lines) ≡ length lines
length-numbered_from k [] = refl
length-numbered_from k (line ∷ lines) = grind (arith, length-numbered_from (k + 1) lines)

-- numbering keeps the lines
pub node_lines-numbered_from : (k : ℕ) (lines : List NodeLine) → node_lines (numbered_from k lines) ≡ lines
node_lines-numbered_from k [] = refl
node_lines-numbered_from k (line ∷ lines) = ap (λ ls. line ∷ ls) (node_lines-numbered_from (k + 1) lines)

-- copied strings are the same names
pub names-copied : {A : Type 0} (keys copied : List (String A)) → AllZip (λ s t. string_bytes t ≡ string_bytes s) keys copied → map string_bytes copied ≡ map string_bytes keys
names-copied [] [] same = refl
names-copied [] (copy ∷ copied) same = absurd same
names-copied (key ∷ keys) [] same = absurd same
names-copied (key ∷ keys) (copy ∷ copied) same = rw (same.0, names-copied keys copied same.1) refl

-- nodes are given back by their depths, names and numbers
pub entries_of_map : (dim : Dimension) → outline_nodes (map (λ e. e.depth) dim) (map (λ e. e.name) dim) (numbers dim) ≡ dim
entries_of_map [] = refl
entries_of_map (e ∷ dim) = ap (λ es. e ∷ es) (entries_of_map dim)

-- with places as numbers they are the numbered lines
pub entries_of_range : (k : ℕ) (lines : List NodeLine) → outline_nodes (map (λ line. line.depth) lines) (map (λ line. line.name) lines) (range_with_len k (length lines)) ≡ numbered_from k lines
entries_of_range k [] = refl
entries_of_range k (line ∷ lines) = ap (λ es. record { depth = line.depth; name = line.name; number = k } ∷ es) (entries_of_range (k + 1) lines)

-- what they were made of is given back
pub depths_of-entries_of : (depths : List ℕ) (names : List (List ℕ)) (ns : List ℕ) → length names ≡ length depths → length ns ≡ length depths → depths_of (node_lines (outline_nodes depths names ns)) ≡ depths
depths_of-entries_of [] names ns same_names same_numbers = refl
depths_of-entries_of (depth ∷ depths) [] ns same_names same_numbers = absurd (omega arith)
depths_of-entries_of (depth ∷ depths) (name ∷ names) [] same_names same_numbers = absurd (omega arith)
depths_of-entries_of (depth ∷ depths) (name ∷ names) (n ∷ ns) same_names same_numbers = ap (λ ds. depth ∷ ds) (depths_of-entries_of depths names ns (omega arith) (omega arith))

pub numbers-entries_of : (depths : List ℕ) (names : List (List ℕ)) (ns : List ℕ) → length names ≡ length depths → length ns ≡ length depths → numbers (outline_nodes depths names ns) ≡ ns
numbers-entries_of [] names [] same_names same_numbers = refl
numbers-entries_of [] names (n ∷ ns) same_names same_numbers = absurd (omega arith)
numbers-entries_of (depth ∷ depths) [] ns same_names same_numbers = absurd (omega arith)
numbers-entries_of (depth ∷ depths) (name ∷ names) [] same_names same_numbers = absurd (omega arith)
numbers-entries_of (depth ∷ depths) (name ∷ names) (n ∷ ns) same_names same_numbers = ap (λ ms. n ∷ ms) (numbers-entries_of depths names ns (omega arith) (omega arith))

pub names-entries_of : (depths : List ℕ) (names : List (List ℕ)) (ns : List ℕ) → length names ≡ length depths → length ns ≡ length depths → map (λ e. e.name) (outline_nodes depths names ns) ≡ names
names-entries_of [] [] ns same_names same_numbers = refl
names-entries_of [] (name ∷ names) ns same_names same_numbers = absurd (omega arith)
names-entries_of (depth ∷ depths) [] ns same_names same_numbers = absurd (omega arith)
names-entries_of (depth ∷ depths) (name ∷ names) [] same_names same_numbers = absurd (omega arith)
names-entries_of (depth ∷ depths) (name ∷ names) (n ∷ ns) same_names same_numbers = ap (λ ms. name ∷ ms) (names-entries_of depths names ns (omega arith) (omega arith))

-- as many nodes as depths
pub length-entries_of : (depths : List ℕ) (names : List (List ℕ)) (ns : List ℕ) → length names ≡ length depths → length ns ≡ length depths → length (outline_nodes depths names ns) ≡ length depths
length-entries_of depths names ns same_names same_numbers = sym (length-node_lines (outline_nodes depths names ns)) ∙ sym (length-map (node_lines (outline_nodes depths names ns)) (λ (line : NodeLine). line.depth)) ∙ ap length (depths_of-entries_of depths names ns same_names same_numbers)

-- whether the names of numbered lines are names
pub all_names-numbered_from : (k : ℕ) (lines : List NodeLine) → list_all (λ e. is_name e.name) (numbered_from k lines) ≡ list_all (λ line. is_name line.name) lines
all_names-numbered_from k [] = refl
all_names-numbered_from k (line ∷ lines) = ap (λ b. is_name line.name && b) (all_names-numbered_from (k + 1) lines)

-- and those of nodes
pub all_names-node_lines : (dim : Dimension) → list_all (λ line. is_name line.name) (node_lines dim) ≡ list_all (λ e. is_name e.name) dim
all_names-node_lines [] = refl
all_names-node_lines (e ∷ dim) = ap (λ b. is_name e.name && b) (all_names-node_lines dim)

-- what is found at no place is not found
position_from-least : {X : Type 0} (p : X → Bool) (k i : ℕ) (xs : List X) → position_from p k xs ≡ Some i → k ≤ i
position_from-least p k i [] found = absurd (cc found)
position_from-least p k i (x ∷ xs) found = grind (arith, λ (h : position_from p (k + 1) xs ≡ Some i). position_from-least p (k + 1) i xs h)

-- what is found stands where it is found
find-at_from : {X : Type 0} (p : X → Bool) (k i j : ℕ) (xs : List X) → position_from p k xs ≡ Some j → j ≡ k + i → find p xs ≡ slice_get xs i
find-at_from p k i j [] found at = refl
find-at_from p k zero j (x ∷ xs) found at = grind (arith, λ (h : position_from p (k + 1) xs ≡ Some j). position_from-least p (k + 1) j xs h)
find-at_from p k (suc i) j (x ∷ xs) found at = grind (arith, λ (h : position_from p (k + 1) xs ≡ Some j). find-at_from p (k + 1) i j xs h (omega arith))

find-none_from : {X : Type 0} (p : X → Bool) (k : ℕ) (xs : List X) → position_from p k xs ≡ None → find p xs ≡ None
find-none_from p k [] none = refl
find-none_from p k (x ∷ xs) none = grind (arith, find-none_from p (k + 1) xs)

-- strings are searched as their bytes
position_from-keys : {A : Type 0} (name : List ℕ) (k : ℕ) (keys : List (String A)) → position_from (λ key. bytes_eq name (string_bytes key)) k keys ≡ position_from (λ n. bytes_eq n name) k (map string_bytes keys)
position_from-keys name k [] = refl
position_from-keys name k (key ∷ keys) = grind (arith, bytes_eq_comm (string_bytes key) name, position_from-keys name (k + 1) keys)

-- nodes are searched by their names
position-named : {A : Type 0} (dim : Dimension) (keys : List (String A)) (name : List ℕ) → map (λ e. e.name) dim ≡ map string_bytes keys → position (λ key. bytes_eq name (string_bytes key)) keys ≡ position_from (λ e. bytes_eq e.name name) 0 dim
position-named dim keys name same =
    position_from-zero (λ key. bytes_eq name (string_bytes key)) keys ∙ position_from-keys name 0 keys ∙ ap (position_from (λ n. bytes_eq n name) 0) (sym same) ∙ position_from-map (λ n. bytes_eq n name) (λ (e : Entry). e.name) 0 dim

-- a node is found where its name is among the strings
pub node_named-at : {A : Type 0} (dim : Dimension) (keys : List (String A)) (name : List ℕ) (i : ℕ) → map (λ e. e.name) dim ≡ map string_bytes keys → position (λ key. bytes_eq name (string_bytes key)) keys ≡ Some i → node_named dim name ≡ option_map (λ e. e.number) (slice_get dim i)
node_named-at dim keys name i same found = ap (option_map (λ e. e.number)) (find-at_from (λ e. bytes_eq e.name name) 0 i i dim (sym (position-named dim keys name same) ∙ found) (omega arith))

-- and none is where it is not
pub node_named-none : {A : Type 0} (dim : Dimension) (keys : List (String A)) (name : List ℕ) → map (λ e. e.name) dim ≡ map string_bytes keys → position (λ key. bytes_eq name (string_bytes key)) keys ≡ None → node_named dim name ≡ None
node_named-none dim keys name same none = ap (option_map (λ e. e.number)) (find-none_from (λ e. bytes_eq e.name name) 0 dim (sym (position-named dim keys name same) ∙ none))
