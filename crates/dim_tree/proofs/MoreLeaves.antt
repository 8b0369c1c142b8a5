-- How many leaves there are: fewer than nodes where there are two, and one more or as many where a leaf is put in.
use Rattle.std.proofs.Common.{◌≡◌, ℕ, ◌+◌, ◌<◌, ◌≤◌, List, [], ◌∷◌, length, insert, get_or, true, None, IfSome, ◌&&◌, ◌==◌, if◌then◌else◌, zero, suc, refl, sym, ap, ◌∙◌, subst, arith}
use Rattle.std.proofs.lemmas.Bool.Decides.{nat_tests}
use Rattle.std.proofs.lemmas.List.{length-map}
use Rattle.indexmap.proofs.SetLemmas.{map-insert}
use Rattle.cube_base.specs.Name.{is_name}
use Rattle.cube_model.specs.declared.tree.NodeLine.{NodeLine}
use Rattle.cube_model.specs.Growing.{grown}
use Rattle.cube_model.specs.Limits.{MAX_DEPTH, MAX_NODES}
use Rattle.cube_model.specs.Tree.{Dimension, Entry, IsTree, entry_of, first_fault, is_leaf, leaves, node_lines, node_named}
use Rattle.dim_tree.specs.declared.node.Node.{Node}
use Rattle.dim_tree.specs.Nodes.{IsNode, entry}
use Rattle.dim_tree.specs.Outline.{line_of_node}
use Rattle.dim_tree.specs.Places.{count_deeper, ends_from, leaves_from}
use Rattle.dim_tree.proofs.Climbing.{depths_of}
use Rattle.dim_tree.proofs.Entries.{length-node_lines}
use Rattle.dim_tree.proofs.Kept.{leaves_counted}
use Rattle.dim_tree.proofs.Leaves.{length-leaves_from}
use Rattle.dim_tree.proofs.NewLeaf.{IsTree-grown, above, above_is, grown_is, with_leaf}
use Rattle.dim_tree.proofs.Nodes.{ends_from-above}
use Rattle.dim_tree.proofs.Renumbering.{accepted_lines, place_at}

-- the count of leaves is the same wherever the places start
leaves_from-start : (k j : ℕ) (ds : List ℕ) → length (leaves_from k ds) ≡ length (leaves_from j ds)
leaves_from-start k j [] = refl
leaves_from-start k j (d ∷ ds) = grind (arith, nat_tests, leaves_from-start (k + 1) (j + 1) ds)

-- a leaf put in behind those that lie deeper than f, after a node of depth b: one more, unless that node had none under it and is the parent
leaves_behind : (f b k m : ℕ) (ds : List ℕ) → f ≤ b → m ≡ count_deeper f ds → length (leaves_from k (b ∷ insert ds m (f + 1))) ≡ length (leaves_from k (b ∷ ds)) + (if f == b && m == 0 then 0 else 1)
leaves_behind f b k zero [] low at = grind (arith, nat_tests)
leaves_behind f b k (suc m) [] low at = absurd (omega arith)
leaves_behind f b k zero (d ∷ ds) low at = grind (arith, nat_tests, leaves_from-start (k + 1 + 1) (k + 1) (d ∷ ds))
leaves_behind f b k (suc m) (d ∷ ds) low at =
    let deep : (f < d) × (m ≡ count_deeper f ds) = grind (arith, nat_tests) in
    grind (arith, nat_tests, leaves_behind f d (k + 1) m ds (omega (arith, deep.0)) deep.1)

-- so it is behind the nodes under the one at a place
leaves_in : (f k j i m : ℕ) (ds : List ℕ) → i < length ds → get_or ds i 0 ≡ f → get_or (ends_from j ds) i 0 ≡ j + m → length (leaves_from k (insert ds m (f + 1))) ≡ length (leaves_from k ds) + (if m == i + 1 then 0 else 1)
leaves_in f k j i m [] within parent ends = absurd (omega arith)
leaves_in f k j i zero (d ∷ ds) within parent ends = absurd (omega (arith, ends, ends_from-above j (d ∷ ds) i within))
leaves_in f k j zero (suc m) (d ∷ ds) within parent ends =
    let at : m ≡ count_deeper f ds = omega (arith, ends, ap (λ e. count_deeper e ds) parent) in
    leaves_behind f d k m ds (omega (arith, parent)) at ∙ grind (arith, nat_tests)
leaves_in f k j (suc i) (suc m) (d ∷ []) within parent ends = absurd (omega arith)
leaves_in f k j (suc i) (suc zero) (d ∷ e ∷ ds) within parent ends = absurd (omega (arith, ends, ends_from-above (j + 1) (e ∷ ds) i (omega arith)))
leaves_in f k j (suc i) (suc (suc m)) (d ∷ e ∷ ds) within parent ends =
    let rest = leaves_in f (k + 1) (j + 1) i (suc m) (e ∷ ds) (omega arith) parent (omega arith) in
    grind (arith, nat_tests, rest)

-- the first of two nodes is no leaf
fewer_from : (lines : List NodeLine) → first_fault [] 0 lines ≡ None → 2 ≤ length lines → length (leaves_from 0 (depths_of lines)) < length lines
fewer_from [] accepted two = absurd (omega arith)
fewer_from (a ∷ []) accepted two = absurd (omega arith)
fewer_from (a ∷ b ∷ lines) accepted two =
    let few : length (leaves_from 1 (depths_of (b ∷ lines))) ≤ length (b ∷ lines) = omega (arith, length-leaves_from 1 (depths_of (b ∷ lines)), length-map (b ∷ lines) (λ (line : NodeLine). line.depth)) in
    let under : a.depth < b.depth = grind (arith, nat_tests) in
    grind (arith, nat_tests, under, few)

-- so there are fewer leaves than nodes
pub fewer_leaves : (dim : Dimension) → IsTree dim → 2 ≤ length dim → length (leaves dim) < length dim
fewer_leaves dim tree two = omega (arith, leaves_counted dim tree, length-node_lines dim, fewer_from (node_lines dim) (accepted_lines dim tree) (omega (arith, length-node_lines dim)))

-- a dimension that grew has a leaf more unless the parent was one
pub leaves-grown : (dim : Dimension) (p : ℕ) (name : List ℕ) → IsTree dim → p < length dim → IfSome (entry_of dim p) (λ e. e.depth < MAX_DEPTH) → length dim < MAX_NODES → node_named dim name ≡ None → is_name name ≡ true
    → length (leaves (grown dim p name)) ≡ length (leaves dim) + (if is_leaf dim p then 0 else 1)
leaves-grown dim p name tree within shallow few new named =
    let ds = depths_of (node_lines dim) in
    let i = place_at dim p in
    let node : Node = above dim p name tree within in
    let its : IsNode dim p i node = above_is dim p name tree within in
    let leaf : Entry = entry (node.depth + 1) name (length dim) in
    let more : Dimension = with_leaf dim p name tree within in
    let is : grown dim p name ≡ more = grown_is dim p name tree within in
    let inside : i < length ds = omega (arith, its.end_above, its.end_within, length-map (node_lines dim) (λ (line : NodeLine). line.depth), length-node_lines dim) in
    let put : depths_of (node_lines more) ≡ insert ds node.end (node.depth + 1) = ap depths_of (map-insert line_of_node dim node.end leaf) ∙ map-insert (λ (line : NodeLine). line.depth) (node_lines dim) node.end (line_of_node leaf) in
    ap (λ d. length (leaves d)) is ∙ sym (leaves_counted more (subst IsTree is (IsTree-grown dim p name tree within shallow few new named))) ∙ ap (λ xs. length (leaves_from 0 xs)) put ∙ leaves_in node.depth 0 0 i node.end ds inside refl (sym its.end_is ∙ omega arith)
    ∙ ap (λ n. n + (if node.end == i + 1 then 0 else 1)) (leaves_counted dim tree) ∙ ap (λ b. length (leaves dim) + (if b then 0 else 1)) (sym its.leaf_is)
