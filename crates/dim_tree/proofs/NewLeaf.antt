-- A dimension that grows a leaf is a tree.
use Rattle.std.proofs.Common.{◌≡◌, ℕ, ◌+◌, ◌<◌, ◌≤◌, Bool, true, false, List, [], ◌∷◌, length, insert, get_or, Option, Some, None, IfSome, slice_get, option_map, ◌&&◌, ◌||◌, ◌==◌, nat_le, nat_lt, if◌then◌else◌, cond, zero, suc, refl, sym, ap, ◌∙◌, subst, eq-eqb, ne_eqb, true≢false, arith}
use Rattle.std.specs.List.{find, list_all, list_any}
use Rattle.std.specs.Option.{option_map_or}
use Rattle.std.specs.Str.{bytes_eq}
use Rattle.std.proofs.lemmas.Bool.Decides.{nat_tests}
use Rattle.std.proofs.lemmas.List.{length-map, get_or-map}
use Rattle.std.proofs.lemmas.List.Edits.{length-insert}
use Rattle.std.proofs.lemmas.List.Folds.{list_any_at, list_any_none}
use Rattle.indexmap.proofs.SetLemmas.{map-insert}
use Rattle.cube_base.specs.Name.{is_name}
use Rattle.cube_model.specs.declared.tree.NodeLine.{NodeLine}
use Rattle.cube_model.specs.Growing.{grown, new_child, up_to_last}
use Rattle.cube_model.specs.Limits.{MAX_DEPTH, MAX_NODES}
use Rattle.cube_model.specs.Tree.{Dimension, Entry, IsTree, are_distinct, climb, entry_of, is_above_parent, is_numbered, is_under, node_lines, node_named, numbers, parent, path, path_after, place_of}
use Rattle.dim_tree.specs.declared.node.Node.{Node}
use Rattle.dim_tree.specs.Nodes.{IsIndexed, IsNode, depths_kept, entry, node_at, numbers_kept}
use Rattle.dim_tree.specs.Outline.{IsOutline, outline_nodes}
use Rattle.dim_tree.proofs.Climbing.{both, depths_of, together}
use Rattle.dim_tree.proofs.Entries.{length-node_lines}
use Rattle.dim_tree.proofs.Insertion.{AreSound, above_from, climb-nearest_first, is_above_nearest, is_apart, nearest, put_in}
use Rattle.dim_tree.proofs.Kept.{kept}
use Rattle.dim_tree.proofs.Numbers.{AreNumbers, above_all, at_within, distinct_parts}
use Rattle.dim_tree.proofs.Outlines.{tree_fault_first}
use Rattle.dim_tree.proofs.Queries.{depth-read, node_is}
use Rattle.dim_tree.proofs.Renaming.{list_any-map}
use Rattle.dim_tree.proofs.Renumbering.{AreNumbers_of, accepted_lines, entry_of-number_at, length-numbers, number_at, number_at-place, place_at, place_of-number_at, place_of-place_at}

-- where just the places from i to j pass, those up to the last end at j
up_to_last-range : {X : Type 0} (p : X → Bool) (i j k m : ℕ) (xs : List X) → ((n t : ℕ) (d : X) → n ≡ k + t → t < length xs → p (get_or xs t d) ≡ (nat_le i n && nat_lt n j)) → i < j → j ≡ k + m → m ≤ length xs → up_to_last p xs ≡ m
up_to_last-range p i j k zero [] passes some at within = refl
up_to_last-range p i j k (suc m) [] passes some at within = absurd (omega arith)
up_to_last-range p i j k zero (x ∷ xs) passes some at within =
    let none : list_any p (x ∷ xs) ≡ false = list_any_none p (x ∷ xs) (λ t d inside. passes (k + t) t d refl inside ∙ grind (arith, nat_tests)) in
    ap (λ b. if b then suc (up_to_last p xs) else 0) none
up_to_last-range p i j k (suc m) (x ∷ xs) passes some at within =
    let last : list_any p (x ∷ xs) ≡ true = list_any_at p (x ∷ xs) m x (omega arith) (passes (k + m) m x refl (omega arith) ∙ grind (arith, nat_tests)) in
    ap (λ b. if b then suc (up_to_last p xs) else 0) last ∙ ap suc (up_to_last-range p i j (k + 1) m xs (λ n t d here inside. passes n (suc t) d (omega arith) (omega arith)) some (omega arith) (omega arith))

-- the test of the number of a node, if there is one
number_below : (n : ℕ) (o : Option Entry) → option_map_or (λ p. nat_lt p n) (option_map (λ e. e.number) o) true ≡ option_map_or (λ e. nat_lt e.number n) o true
number_below n None = refl
number_below n (Some e) = refl

-- a number that is not among those where another is, differs
among_differs : (x y : ℕ) (ns : List ℕ) → list_any (λ m. m == x) ns ≡ true → list_any (λ m. m == y) ns ≡ false → y ≡ x → ⊥
among_differs x y ns among not_among same = true≢false (sym among ∙ ap (λ z. list_any (λ m. m == z) ns) (sym same) ∙ not_among)

-- the parent of each node is the nearest that it may be a child of
above_told : (dim earlier rest : List Entry) → ((x : ℕ) → list_any (λ m. m == x) (numbers rest) ≡ true → path dim x ≡ path_after earlier x rest) → are_distinct (numbers rest) ≡ true → list_all (is_above_parent dim) rest ≡ above_from earlier rest
unfolding parent
above_told dim earlier [] told distinct = refl
above_told dim earlier (e ∷ rest) told distinct =
    let parts = distinct_parts e.number (numbers rest) distinct in
    let own : path dim e.number ≡ e ∷ climb e.depth earlier = told e.number (ap (λ b. b || list_any (λ m. m == e.number) (numbers rest)) (eq-eqb e.number e.number refl)) ∙ ap (λ b. cond b (e ∷ climb e.depth earlier) (path_after (e ∷ earlier) e.number rest)) (eq-eqb e.number e.number refl) in
    let here : is_above_parent dim e ≡ is_above_nearest earlier e =
    ap (λ ps. option_map_or (λ p. nat_lt p e.number) (option_map (λ (a : Entry). a.number) (slice_get ps 1)) true) own ∙ ap (λ o. option_map_or (λ p. nat_lt p e.number) (option_map (λ (a : Entry). a.number) o) true) (climb-nearest_first e.depth earlier) ∙ number_below e.number (nearest e.depth earlier) in
    let others : (x : ℕ) → list_any (λ m. m == x) (numbers rest) ≡ true → path dim x ≡ path_after (e ∷ earlier) x rest = λ x among.
    told x (grind (arith, among)) ∙ ap (λ b. cond b (e ∷ climb e.depth earlier) (path_after (e ∷ earlier) x rest)) (ne_eqb e.number x (among_differs x e.number (numbers rest) among parts.0)) in
    ap (λ b. b && list_all (is_above_parent dim) rest) here ∙ ap (λ b. is_above_nearest earlier e && b) (above_told dim (e ∷ earlier) rest others parts.1)

pub above_all_nearest : (dim : Dimension) → are_distinct (numbers dim) ≡ true → list_all (is_above_parent dim) dim ≡ above_from [] dim
unfolding path
above_all_nearest dim distinct = above_told dim [] dim (λ x among. refl) distinct

-- whether some or all pass, with one more
pub list_any-insert : {X : Type 0} (p : X → Bool) (xs : List X) (m : ℕ) (x : X) → list_any p (insert xs m x) ≡ (p x || list_any p xs)
list_any-insert p xs zero x = refl
list_any-insert p [] (suc m) x = refl
list_any-insert p (y ∷ xs) (suc m) x = grind (arith, list_any-insert p xs m x)

pub list_all-insert : {X : Type 0} (p : X → Bool) (xs : List X) (m : ℕ) (x : X) → list_all p (insert xs m x) ≡ (p x && list_all p xs)
list_all-insert p xs zero x = refl
list_all-insert p [] (suc m) x = refl
list_all-insert p (y ∷ xs) (suc m) x = grind (arith, list_all-insert p xs m x)

-- distinct numbers with another one
distinct-insert : (ns : List ℕ) (m x : ℕ) → list_any (λ n. n == x) ns ≡ false → are_distinct ns ≡ true → are_distinct (insert ns m x) ≡ true
distinct-insert ns zero x other distinct = grind (arith, other, distinct)
distinct-insert [] (suc m) x other distinct = refl
distinct-insert (n ∷ ns) (suc m) x other distinct = grind (arith, nat_tests, list_any-insert (λ k. k == n) ns m x, distinct-insert ns m x)

-- what is below a bound is below the next
below_more : (b : ℕ) (ns : List ℕ) → list_all (λ n. nat_lt n b) ns ≡ true → list_all (λ n. nat_lt n (b + 1)) ns ≡ true
below_more b [] below = refl
below_more b (n ∷ ns) below = grind (arith, nat_tests, below_more b ns)

-- the next number may stand anywhere among the others
pub AreNumbers_more : (ns : List ℕ) (m : ℕ) → m ≤ length ns → AreNumbers ns → AreNumbers (insert ns m (length ns))
AreNumbers_more ns m within are = record {
  distinct = distinct-insert ns m (length ns) (above_all (length ns) (length ns) ns are.below (omega arith)) are.distinct;
  below = ap (λ b. list_all (λ n. nat_lt n b) (insert ns m (length ns))) (length-insert ns m (length ns) within) ∙ list_all-insert (λ n. nat_lt n (length ns + 1)) ns m (length ns) ∙ together (grind (arith, nat_tests)) (below_more (length ns) ns are.below);
}

-- a name that none has
none_named : {X : Type 0} (f : Entry → X) (o : Option Entry) → option_map f o ≡ None → o ≡ None
none_named f None none = refl
none_named f (Some e) none = absurd (cc none)

-- what is not found, none passes
none_found : {X : Type 0} (p : X → Bool) (xs : List X) → find p xs ≡ None → list_any p xs ≡ false
none_found p [] none = refl
none_found p (x ∷ xs) none = grind (arith, none_found p xs)

-- a node of a name that none has, with a number above all, is apart from all
apart_all : (x : Entry) (es : List Entry) → find (λ e. bytes_eq e.name x.name) es ≡ None → list_all (λ n. nat_lt n x.number) (numbers es) ≡ true → list_all (is_apart x) es ≡ true
apart_all x [] none below = refl
apart_all x (e ∷ es) none below = grind (arith, nat_tests, apart_all x es)

-- the depth of the new node
depth_more : (o : Option Entry) (d : ℕ) → option_map (λ e. e.depth) o ≡ Some d → option_map_or (λ e. e.depth + 1) o 0 ≡ d + 1
depth_more None d is = absurd (cc is)
depth_more (Some e) d is = grind (arith, is)

-- the depth of the parent
pub shallow_parent : (o : Option Entry) (d : ℕ) → option_map (λ e. e.depth) o ≡ Some d → IfSome o (λ e. e.depth < MAX_DEPTH) → d < MAX_DEPTH
shallow_parent None d is shallow = absurd (cc is)
shallow_parent (Some e) d is shallow = grind (arith, is, shallow)

-- nodes that are some and few, sound, rightly numbered and named, are a tree
IsTree_of : (dim : Dimension) → 0 < length dim → length dim ≤ MAX_NODES → AreSound [] 0 dim → AreNumbers (numbers dim) → list_all (λ e. is_name e.name) dim ≡ true → IsTree dim
unfolding is_numbered
IsTree_of dim some few sound are named = record {
  accepted = tree_fault_first (node_lines dim) (omega (arith, length-node_lines dim)) (omega (arith, length-node_lines dim)) ∙ sound.judged;
  numbered = together (together are.distinct (ap (λ b. list_all (λ n. nat_lt n b) (numbers dim)) (sym (length-numbers dim)) ∙ are.below)) (above_all_nearest dim are.distinct ∙ sound.above);
  names = named;
}

-- and a tree is sound
sound_tree : (dim : Dimension) → IsTree dim → AreSound [] 0 dim
unfolding is_numbered
sound_tree dim tree =
    let parts = both (are_distinct (numbers dim) && list_all (λ n. nat_lt n (length dim)) (numbers dim)) (list_all (is_above_parent dim) dim) tree.numbered in
    record {
      judged = accepted_lines dim tree;
      above = sym (above_all_nearest dim (AreNumbers_of dim tree).distinct) ∙ parts.1;
    }

module _ (dim : Dimension) (tree : IsTree dim) (p i : ℕ) (found : place_of dim p ≡ Some i) (node : Node) (its : IsNode dim p i node) (name : List ℕ) where
  -- the new leaf
  abbrev pub leaf : Entry
  leaf = entry (node.depth + 1) name (length dim)

  -- the nodes under the parent are those from it to its end
  under_place : (n t : ℕ) (d : Entry) → n ≡ 0 + t → t < length dim → is_under dim (get_or dim t d).number p ≡ (nat_le i n && nat_lt n node.end)
  under_place n t d at inside =
      let number : (get_or dim t d).number ≡ number_at dim t = sym (get_or-map (λ (e : Entry). e.number) dim t d 0 inside) ∙ sym (at_within (numbers dim) t (omega (arith, length-numbers dim))) in
      let same : t ≡ n = omega arith in
      ap (λ x. is_under dim x p) number ∙ its.under_is (number_at dim t) t (place_of-number_at dim (AreNumbers_of dim tree) t inside) ∙ ap (λ x. nat_le i x && nat_lt x node.end) same

  -- so it is put in at that end
  pub grown-end : grown dim p name ≡ insert dim node.end leaf
  unfolding grown
  grown-end =
      ap (λ m. insert dim m (new_child dim p name)) (up_to_last-range (λ e. is_under dim e.number p) i node.end 0 node.end dim under_place its.end_above (omega arith) its.end_within)
      ∙ ap (λ d. insert dim node.end (entry d name (length dim))) (depth_more (entry_of dim p) node.depth its.depth_is)

  -- the depth of the parent, by its place
  pub parent_depth : get_or (depths_of (node_lines dim)) i 0 ≡ node.depth
  parent_depth =
      let at = number_at-place dim (AreNumbers_of dim tree) p i found in
      let read : Some (get_or (depths_of (node_lines dim)) i 0) ≡ Some node.depth = sym (depth-read dim i at.1) ∙ ap (option_map (λ (e : Entry). e.depth)) (sym (entry_of-number_at dim (AreNumbers_of dim tree) i) ∙ ap (entry_of dim) at.0) ∙ its.depth_is in
      cc read

  -- the tree stays one
  pub IsTree_more : node.depth < MAX_DEPTH → length dim < MAX_NODES → node_named dim name ≡ None → is_name name ≡ true → IsTree (insert dim node.end leaf)
  IsTree_more shallow few new named =
      let at = number_at-place dim (AreNumbers_of dim tree) p i found in
      let long : length (insert dim node.end leaf) ≡ length dim + 1 = length-insert dim node.end leaf its.end_within in
      let counted : length (depths_of (node_lines dim)) ≡ length dim = length-map (node_lines dim) (λ (line : NodeLine). line.depth) ∙ length-node_lines dim in
      let below : list_all (λ n. nat_lt n (length dim)) (numbers dim) ≡ true = ap (λ b. list_all (λ n. nat_lt n b) (numbers dim)) (sym (length-numbers dim)) ∙ (AreNumbers_of dim tree).below in
      let apart : list_all (is_apart leaf) dim ≡ true = apart_all leaf dim (none_named (λ e. e.number) _ new) below in
      let sound : AreSound [] 0 (insert dim node.end leaf) = put_in leaf node.depth refl shallow [] 0 0 i node.end dim (omega (arith, counted, at.1)) parent_depth (sym its.end_is ∙ omega arith) refl apart (sound_tree dim tree) in
      let numbers_are : insert (numbers dim) node.end (length (numbers dim)) ≡ numbers (insert dim node.end leaf) = ap (insert (numbers dim) node.end) (length-numbers dim) ∙ sym (map-insert (λ (e : Entry). e.number) dim node.end leaf) in
      let are : AreNumbers (numbers (insert dim node.end leaf)) = subst AreNumbers numbers_are (AreNumbers_more (numbers dim) node.end (omega (arith, its.end_within, length-numbers dim)) (AreNumbers_of dim tree)) in
      IsTree_of (insert dim node.end leaf) (omega (arith, long)) (omega (arith, long)) sound are (list_all-insert (λ e. is_name e.name) dim node.end leaf ∙ together named tree.names)

module _ (dim : Dimension) (p : ℕ) (name : List ℕ) (tree : IsTree dim) (within : p < length dim) where
  -- the place of the parent
  pub parent_found : place_of dim p ≡ Some (place_at dim p)
  parent_found = place_of-place_at dim (AreNumbers_of dim tree) p within

  -- what is kept for it
  abbrev pub above : Node
  above = node_at (depths_of (node_lines dim)) (numbers dim) (place_at dim p)

  pub above_is : IsNode dim p (place_at dim p) above
  above_is = node_is dim tree p (place_at dim p) parent_found

  -- the dimension with the new leaf
  abbrev pub with_leaf : Dimension
  with_leaf = insert dim above.end (entry (above.depth + 1) name (length dim))

  pub grown_is : grown dim p name ≡ with_leaf
  grown_is = grown-end dim tree p (place_at dim p) parent_found above above_is name

  pub length-grown : length (grown dim p name) ≡ length dim + 1
  length-grown = ap length grown_is ∙ length-insert dim above.end (entry (above.depth + 1) name (length dim)) above_is.end_within

  -- it is a tree
  pub IsTree-grown : IfSome (entry_of dim p) (λ e. e.depth < MAX_DEPTH) → length dim < MAX_NODES → node_named dim name ≡ None → is_name name ≡ true → IsTree (grown dim p name)
  IsTree-grown shallow few new named =
      subst IsTree (sym grown_is) (IsTree_more dim tree p (place_at dim p) parent_found above above_is name (shallow_parent (entry_of dim p) above.depth above_is.depth_is shallow) few new named)

-- the nodes of lists with one item more each
pub outline_nodes-insert : (depths : List ℕ) (names : List (List ℕ)) (ns : List ℕ) (m d : ℕ) (name : List ℕ) (n : ℕ) → length names ≡ length depths → length ns ≡ length depths
    → outline_nodes (insert depths m d) (insert names m name) (insert ns m n) ≡ insert (outline_nodes depths names ns) m (entry d name n)
outline_nodes-insert depths names ns zero d name n same_names same_numbers = refl
outline_nodes-insert [] [] [] (suc m) d name n same_names same_numbers = refl
outline_nodes-insert [] [] (k ∷ ns) (suc m) d name n same_names same_numbers = absurd (omega arith)
outline_nodes-insert [] (other ∷ names) ns (suc m) d name n same_names same_numbers = absurd (omega arith)
outline_nodes-insert (depth ∷ depths) [] ns (suc m) d name n same_names same_numbers = absurd (omega arith)
outline_nodes-insert (depth ∷ depths) (other ∷ names) [] (suc m) d name n same_names same_numbers = absurd (omega arith)
outline_nodes-insert (depth ∷ depths) (other ∷ names) (k ∷ ns) (suc m) d name n same_names same_numbers = ap (λ es. record { depth = depth; name = other; number = k } ∷ es) (outline_nodes-insert depths names ns m d name n (omega arith) (omega arith))

-- The lists are a tree, which is the dimension with a new leaf.
pub record HasMore (dim : Dimension) (p : ℕ) (name : List ℕ) (depths : List ℕ) (names : List (List ℕ)) (ns : List ℕ) : Type 0 where
  pub outline : IsOutline depths names ns
  pub made : outline_nodes depths names ns ≡ grown dim p name

module _ {dim : Dimension} {nodes : List Node} {names : List (List ℕ)} {places kept_leaves : List ℕ} (indexed : IsIndexed nodes names places kept_leaves) (view_is : outline_nodes (depths_kept nodes) names (numbers_kept nodes) ≡ dim) where
  -- a name that no node has is none of the names
  pub name_new : (name : List ℕ) → node_named dim name ≡ None → list_any (λ earlier. bytes_eq earlier name) names ≡ false
  name_new name new =
      ap (list_any (λ earlier. bytes_eq earlier name)) (sym (kept indexed view_is).names_are) ∙ list_any-map (λ earlier. bytes_eq earlier name) (λ (e : Entry). e.name) dim ∙ none_found (λ e. bytes_eq e.name name) dim (none_named (λ e. e.number) _ new)

  -- with one item more each
  has_more : (p place depth : ℕ) (name : List ℕ) → place ≤ length dim → grown dim p name ≡ insert dim place (entry depth name (length dim)) → IsTree (grown dim p name)
      → HasMore dim p name (insert (depths_kept nodes) place depth) (insert names place name) (insert (numbers_kept nodes) place (length nodes))
  has_more p place depth name within is tree =
      let same_names = indexed.outline.same_names in
      let same_numbers = indexed.outline.same_numbers in
      let room : length nodes ≡ length dim = (kept indexed view_is).room_nodes in
      let counted : length (depths_kept nodes) ≡ length nodes = length-map nodes (λ (n : Node). n.depth) in
      let made : outline_nodes (insert (depths_kept nodes) place depth) (insert names place name) (insert (numbers_kept nodes) place (length nodes)) ≡ grown dim p name =
      outline_nodes-insert (depths_kept nodes) names (numbers_kept nodes) place depth name (length nodes) same_names same_numbers ∙ ap (λ d. insert d place (entry depth name (length nodes))) view_is ∙ ap (λ n. insert dim place (entry depth name n)) room ∙ sym is in
      let long_depths : length (insert (depths_kept nodes) place depth) ≡ length (depths_kept nodes) + 1 = length-insert (depths_kept nodes) place depth (omega arith) in
      let long_names : length (insert names place name) ≡ length names + 1 = length-insert names place name (omega arith) in
      let long_numbers : length (insert (numbers_kept nodes) place (length nodes)) ≡ length (numbers_kept nodes) + 1 = length-insert (numbers_kept nodes) place (length nodes) (omega arith) in
      record {
        outline = record { same_names = omega arith; same_numbers = omega arith; tree = subst IsTree (sym made) tree };
        made = made;
      }

  -- as it is put together
  pub has_more_as : {depths : List ℕ} {more_names : List (List ℕ)} {ns : List ℕ} {first second : List Node} (p place depth : ℕ) (name : List ℕ) → p < length dim → IfSome (entry_of dim p) (λ e. e.depth < MAX_DEPTH) → length dim < MAX_NODES → node_named dim name ≡ None → is_name name ≡ true
      → place ≤ length dim → grown dim p name ≡ insert dim place (entry depth name (length dim))
      → first ≡ nodes → second ≡ nodes → depths ≡ insert (depths_kept first) place depth → more_names ≡ insert names place name → ns ≡ insert (numbers_kept second) place (length second) → HasMore dim p name depths more_names ns
  has_more_as {depths} {more_names} {ns} {first} {second} p place depth name parent shallow few new named within is first_is second_is depths_are names_are numbers_are =
      let more = has_more p place depth name within is (IsTree-grown dim p name (kept indexed view_is).tree parent shallow few new named) in
      rw (depths_are, names_are, numbers_are, first_is, second_is) more
