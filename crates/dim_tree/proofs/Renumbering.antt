-- What the definitions say of a dimension, from what they say of the same nodes with their places as numbers.
use Rattle.std.proofs.Common.{◌≡◌, ℕ, ◌+◌, ◌<◌, ◌≤◌, Bool, true, false, List, [], ◌∷◌, length, map, get_or, slice_get, Option, Some, None, option_map, ◌&&◌, ◌==◌, nat_lt, if◌then◌else◌, zero, suc, refl, sym, ap, ◌∙◌, inl, inr, ne_eqb, arith}
use Rattle.std.specs.List.{list_any, list_all}
use Rattle.std.specs.Option.{option_map_or}
use Rattle.std.proofs.lemmas.Bool.{cases_eq}
use Rattle.std.proofs.lemmas.Bool.Decides.{nat_tests}
use Rattle.std.proofs.lemmas.List.{length-map, get_or-map}
use Rattle.std.proofs.lemmas.Option.{slice_get-map, slice_get-get_or}
use Rattle.cube_model.specs.declared.tree.NodeLine.{NodeLine}
use Rattle.cube_model.specs.Tree.{Dimension, Entry, IsTree, are_distinct, is_numbered, is_above_parent, numbers, numbered, numbered_from, node_lines, tree_fault, first_fault, parent, is_under, is_leaf, leaves, entry_of, node_named, place_of}
use Rattle.cube_model.specs.Cells.{leaf_places}
use Rattle.cube_model.specs.Cut.{children, first_child, next_sibling, in_cut, cut}
use Rattle.dim_tree.specs.Places.{parents_from}
use Rattle.dim_tree.proofs.Climbing.{both, together, depths_of}
use Rattle.dim_tree.proofs.Entries.{entry_of-numbered, length-node_lines}
use Rattle.dim_tree.proofs.Nodes.{no_entry, parent-place}
use Rattle.dim_tree.proofs.Numbers.{AreNumbers, at, place, at_within, at-below, at-place, at-same, at-eqb, place-at, place-below, position-at, position-place}
use Rattle.dim_tree.proofs.Outlines.{all_names-node_lines, all_names-numbered_from, length-numbered_from, node_lines-numbered_from, tree_fault_none}
use Rattle.dim_tree.proofs.Parents.{parents_from-below}
use Rattle.dim_tree.proofs.Renaming.{renamed, position-map, parent-renamed, is_under-renamed, is_leaf-renamed, leaves-renamed, leaf_places-renamed, children-renamed, first_child-renamed, next_sibling-renamed, in_cut-renamed, cut-renamed, entry_of-renamed, node_named-renamed}

-- the same nodes with their places as numbers
abbrev pub plain : Dimension → Dimension
plain dim = numbered (node_lines dim)

-- the number of the node at a place; past the last place, the place itself
abbrev pub number_at : Dimension → ℕ → ℕ
number_at dim i = at (numbers dim) i

-- the place of the node of a number; of a number that none has, the number itself
abbrev pub place_at : Dimension → ℕ → ℕ
place_at dim x = place (numbers dim) x

pub length-plain : (dim : Dimension) → length (plain dim) ≡ length dim
length-plain dim = length-numbered_from 0 (node_lines dim) ∙ length-node_lines dim

pub length-numbers : (dim : Dimension) → length (numbers dim) ≡ length dim
length-numbers dim = length-map dim (λ e. e.number)

-- the numbers of a tree are distinct and below their count
pub AreNumbers_of : (dim : Dimension) → IsTree dim → AreNumbers (numbers dim)
unfolding is_numbered
AreNumbers_of dim tree =
    let parts = both (are_distinct (numbers dim) && list_all (λ n. nat_lt n (length dim)) (numbers dim)) (list_all (is_above_parent dim) dim) tree.numbered in
    let first = both (are_distinct (numbers dim)) (list_all (λ n. nat_lt n (length dim)) (numbers dim)) parts.0 in
    record { distinct = first.0; below = ap (λ b. list_all (λ n. nat_lt n b) (numbers dim)) (length-numbers dim) ∙ first.1 }

-- nodes are those of their lines with their own numbers
renumbered_from : (f : ℕ → ℕ) (k : ℕ) (dim : Dimension) → ((i x : ℕ) → x ≡ k + i → i < length dim → f x ≡ get_or (numbers dim) i 0) → map (renamed f) (numbered_from k (node_lines dim)) ≡ dim
renumbered_from f k [] is = refl
renumbered_from f k (e ∷ dim) is =
    let here : f k ≡ e.number = is 0 k (omega arith) (omega arith) in
    let first : renamed f (record { depth = e.depth; name = e.name; number = k }) ≡ e = ap (λ (n : ℕ). let x : Entry = record { depth = e.depth; name = e.name; number = n } in x) here in
    ap (λ d. d ∷ map (renamed f) (numbered_from (k + 1) (node_lines dim))) first ∙ ap (λ ds. e ∷ ds) (renumbered_from f (k + 1) dim (λ i x there within. is (suc i) x (omega arith) (omega arith)))

pub renumbered : (dim : Dimension) → map (renamed (number_at dim)) (plain dim) ≡ dim
renumbered dim = renumbered_from (number_at dim) 0 dim (λ i x there within.
    let same : x ≡ i = omega arith in
    ap (number_at dim) same ∙ at_within (numbers dim) i (omega (arith, length-numbers dim)))

-- the number that is read at a place
pub number_at-read : (dim : Dimension) (i : ℕ) → i < length dim → option_map (λ e. e.number) (slice_get dim i) ≡ Some (number_at dim i)
number_at-read dim i within =
    let inside : i < length (numbers dim) = omega (arith, length-numbers dim) in
    sym (slice_get-map (λ (e : Entry). e.number) dim i) ∙ slice_get-get_or (numbers dim) i 0 inside ∙ ap Some (sym (at_within (numbers dim) i inside))

-- the image of a number, unless there is none
pub option_map-unless : (f : ℕ → ℕ) (b : Bool) (p : ℕ) → option_map f (if b then None else Some p) ≡ (if b then None else Some (f p))
option_map-unless f true p = refl
option_map-unless f false p = refl

-- numbers that are distinct and below their count
module _ (dim : Dimension) (are : AreNumbers (numbers dim)) where
  -- the number at a place is below the count, and different places have different numbers
  pub number_at-within : (i : ℕ) → i < length dim → number_at dim i < length dim
  number_at-within i within = omega (arith, length-numbers dim, at-below (numbers dim) are i (omega (arith, length-numbers dim)))

  pub number_at-same : (i j : ℕ) → number_at dim i ≡ number_at dim j → i ≡ j
  number_at-same = at-same (numbers dim) are

  pub number_at-eqb : (i j : ℕ) → (number_at dim i == number_at dim j) ≡ (i == j)
  number_at-eqb = at-eqb (numbers dim) are

  -- each number has a place
  pub place_at-within : (x : ℕ) → x < length dim → place_at dim x < length dim
  place_at-within x within = omega (arith, length-numbers dim, place-below (numbers dim) are x (omega (arith, length-numbers dim)))

  pub number_at-place_at : (x : ℕ) → number_at dim (place_at dim x) ≡ x
  number_at-place_at = at-place (numbers dim) are

  pub place_at-number_at : (i : ℕ) → place_at dim (number_at dim i) ≡ i
  place_at-number_at = place-at (numbers dim) are

  pub place_of-place_at : (x : ℕ) → x < length dim → place_of dim x ≡ Some (place_at dim x)
  place_of-place_at x within = sym (position-map (λ n. n == x) (λ (e : Entry). e.number) dim) ∙ position-place (numbers dim) are x (omega (arith, length-numbers dim))

  pub place_of-number_at : (i : ℕ) → i < length dim → place_of dim (number_at dim i) ≡ Some i
  place_of-number_at i within = place_of-place_at (number_at dim i) (number_at-within i within) ∙ ap Some (place_at-number_at i)

  -- the number at the place where one is found
  pub number_at-place : (x i : ℕ) → place_of dim x ≡ Some i → (number_at dim i ≡ x) × (i < length dim)
  number_at-place x i found =
      let its = position-at (numbers dim) are x i (position-map (λ n. n == x) (λ (e : Entry). e.number) dim ∙ found) in
      (its.0, omega (arith, its.1, length-numbers dim))

  -- the node of the number at a place
  pub entry_of-number_at : (i : ℕ) → entry_of dim (number_at dim i) ≡ slice_get dim i
  entry_of-number_at i =
      let f = number_at dim in
      ap (λ d. entry_of d (f i)) (sym (renumbered dim)) ∙ entry_of-renamed f number_at-eqb (plain dim) i ∙ ap (option_map (renamed f)) (entry_of-numbered (node_lines dim) i) ∙ sym (slice_get-map (renamed f) (plain dim) i) ∙ ap (λ d. slice_get d i) (renumbered dim)

  -- what is said of numbers at places, is said of the places among the plain nodes
  pub parent-number_at : (i : ℕ) → parent dim (number_at dim i) ≡ option_map (number_at dim) (parent (plain dim) i)
  parent-number_at i = let f = number_at dim in ap (λ d. parent d (f i)) (sym (renumbered dim)) ∙ parent-renamed f number_at-eqb (plain dim) i

  pub is_under-number_at : (i j : ℕ) → is_under dim (number_at dim i) (number_at dim j) ≡ is_under (plain dim) i j
  is_under-number_at i j = let f = number_at dim in ap (λ d. is_under d (f i) (f j)) (sym (renumbered dim)) ∙ is_under-renamed f number_at-eqb (plain dim) i j

  pub is_leaf-number_at : (i : ℕ) → is_leaf dim (number_at dim i) ≡ is_leaf (plain dim) i
  is_leaf-number_at i = let f = number_at dim in ap (λ d. is_leaf d (f i)) (sym (renumbered dim)) ∙ is_leaf-renamed f number_at-eqb (plain dim) i

  pub leaves-number_at : leaves dim ≡ map (number_at dim) (leaves (plain dim))
  leaves-number_at = let f = number_at dim in ap leaves (sym (renumbered dim)) ∙ leaves-renamed f number_at-eqb (plain dim)

  pub leaf_places-number_at : (i : ℕ) → leaf_places dim (number_at dim i) ≡ leaf_places (plain dim) i
  leaf_places-number_at i = let f = number_at dim in ap (λ d. leaf_places d (f i)) (sym (renumbered dim)) ∙ leaf_places-renamed f number_at-eqb (plain dim) i

  pub children-number_at : (i : ℕ) → children dim (number_at dim i) ≡ map (number_at dim) (children (plain dim) i)
  children-number_at i = let f = number_at dim in ap (λ d. children d (f i)) (sym (renumbered dim)) ∙ children-renamed f number_at-eqb (plain dim) i

  pub first_child-number_at : (i : ℕ) → first_child dim (number_at dim i) ≡ option_map (number_at dim) (first_child (plain dim) i)
  first_child-number_at i = let f = number_at dim in ap (λ d. first_child d (f i)) (sym (renumbered dim)) ∙ first_child-renamed f number_at-eqb (plain dim) i

  pub next_sibling-number_at : (i : ℕ) → next_sibling dim (number_at dim i) ≡ option_map (number_at dim) (next_sibling (plain dim) i)
  next_sibling-number_at i = let f = number_at dim in ap (λ d. next_sibling d (f i)) (sym (renumbered dim)) ∙ next_sibling-renamed f number_at-eqb (plain dim) i

  -- the cuts are alike too
  in_cut_entries : (depth : ℕ) (o : Option Entry) → option_map (in_cut dim depth) (option_map (renamed (number_at dim)) o) ≡ option_map (in_cut (plain dim) depth) o
  in_cut_entries depth None = refl
  in_cut_entries depth (Some e) = let f = number_at dim in ap Some (ap (λ d. in_cut d depth (renamed f e)) (sym (renumbered dim)) ∙ in_cut-renamed f number_at-eqb (plain dim) depth e)

  pub in_cut-number_at : (depth i : ℕ) → option_map (in_cut dim depth) (entry_of dim (number_at dim i)) ≡ option_map (in_cut (plain dim) depth) (entry_of (plain dim) i)
  in_cut-number_at depth i =
      let f = number_at dim in
      ap (λ d. option_map (in_cut dim depth) (entry_of d (f i))) (sym (renumbered dim)) ∙ ap (option_map (in_cut dim depth)) (entry_of-renamed f number_at-eqb (plain dim) i) ∙ in_cut_entries depth (entry_of (plain dim) i)

  pub cut-number_at : (depth : ℕ) → cut dim depth ≡ map (number_at dim) (cut (plain dim) depth)
  cut-number_at depth = let f = number_at dim in ap (λ d. cut d depth) (sym (renumbered dim)) ∙ cut-renamed f number_at-eqb (plain dim) depth

  -- a name is found alike
  pub node_named-number_at : (name : List ℕ) → node_named dim name ≡ option_map (number_at dim) (node_named (plain dim) name)
  node_named-number_at name = let f = number_at dim in ap (λ d. node_named d name) (sym (renumbered dim)) ∙ node_named-renamed f number_at-eqb (plain dim) name

  -- by the places: what is kept as the parent of a node that is not first
  pub kept_parent : (i : ℕ) → first_fault [] 0 (node_lines dim) ≡ None → i < length dim → parent dim (number_at dim i) ≡ (if i == 0 then None else Some (number_at dim (get_or (parents_from [] (depths_of (node_lines dim))) i 0)))
  kept_parent i accepted within =
      let f = number_at dim in
      parent-number_at i ∙ ap (option_map f) (parent-place (node_lines dim) accepted i (omega (arith, length-node_lines dim))) ∙ option_map-unless f (i == 0) (get_or (parents_from [] (depths_of (node_lines dim))) i 0)

-- a test of the numbers of numbered lines
list_all-numbered_from : (p : ℕ → Bool) (k : ℕ) (lines : List NodeLine) → ((x : ℕ) → k ≤ x → x < k + length lines → p x ≡ true) → list_all (λ e. p e.number) (numbered_from k lines) ≡ true
list_all-numbered_from p k [] passes = refl
list_all-numbered_from p k (line ∷ lines) passes = together (passes k (omega arith) (omega arith)) (list_all-numbered_from p (k + 1) lines (λ x from before. passes x (omega arith) (omega arith)))

-- numbers from k on are not below k
none_below : (x k : ℕ) (lines : List NodeLine) → x < k → list_any (λ n. n == x) (numbers (numbered_from k lines)) ≡ false
none_below x k [] below = refl
none_below x k (line ∷ lines) below = grind (arith, nat_tests, none_below x (k + 1) lines (omega arith))

distinct-numbered_from : (k : ℕ) (lines : List NodeLine) → are_distinct (numbers (numbered_from k lines)) ≡ true
distinct-numbered_from k [] = refl
distinct-numbered_from k (line ∷ lines) = grind (arith, nat_tests, none_below k (k + 1) lines (omega arith), distinct-numbered_from (k + 1) lines)

below-numbered_from : (b k : ℕ) (lines : List NodeLine) → k + length lines ≤ b → list_all (λ n. nat_lt n b) (numbers (numbered_from k lines)) ≡ true
below-numbered_from b k [] within = refl
below-numbered_from b k (line ∷ lines) within = grind (arith, nat_tests, below-numbered_from b (k + 1) lines (omega arith))

-- places are numbers in an order of creation
pub is_numbered-numbered : (lines : List NodeLine) → first_fault [] 0 lines ≡ None → is_numbered (numbered lines) ≡ true
unfolding is_numbered
is_numbered-numbered lines accepted =
    let dim = numbered lines in
    let few = length-map lines (λ (line : NodeLine). line.depth) in
    together (together (distinct-numbered_from 0 lines) (below-numbered_from (length dim) 0 lines (omega (arith, length-numbered_from 0 lines)))) (list_all-numbered_from (λ x. option_map_or (λ p. nat_lt p x) (parent dim x) true) 0 lines (λ x from before.
    let inside : x < length lines = omega arith in
    ap (λ o. option_map_or (λ p. nat_lt p x) o true) (parent-place lines accepted x inside) ∙ elim (cases_eq x 0) [
      | inl first ↦ grind (arith, nat_tests)
      | inr other ↦ grind (arith, nat_tests, parents_from-below [] (depths_of lines) x (omega (arith, few)) (omega (arith, other)))
    ]))

-- the test passes at each place of a list that passes
passes_at : {X : Type 0} (p : X → Bool) (xs : List X) (i : ℕ) (d : X) → list_all p xs ≡ true → i < length xs → p (get_or xs i d) ≡ true
passes_at p [] i d all within = absurd (omega arith)
passes_at p (x ∷ xs) zero d all within = (both (p x) (list_all p xs) all).0
passes_at p (x ∷ xs) (suc i) d all within = passes_at p xs i d (both (p x) (list_all p xs) all).1 (omega arith)

module _ (dim : Dimension) (tree : IsTree dim) where
  -- the first line stands, and so do the others
  pub accepted_lines : first_fault [] 0 (node_lines dim) ≡ None
  accepted_lines = (tree_fault_none (node_lines dim) tree.accepted).2

  -- the plain nodes are a tree too
  pub IsTree-plain : IsTree (plain dim)
  IsTree-plain = record {
    accepted = ap tree_fault (node_lines-numbered_from 0 (node_lines dim)) ∙ tree.accepted;
    numbered = is_numbered-numbered (node_lines dim) accepted_lines;
    names = all_names-numbered_from 0 (node_lines dim) ∙ all_names-node_lines dim ∙ tree.names;
  }

  pub some_node : 0 < length dim
  some_node = omega (arith, length-node_lines dim, (tree_fault_none (node_lines dim) tree.accepted).0)

  -- its numbers are distinct and below their count
  pub are_numbers : AreNumbers (numbers dim)
  are_numbers = AreNumbers_of dim tree

  -- a node's number is above that of its parent
  above_parents : list_all (is_above_parent dim) dim ≡ true
  unfolding is_numbered
  above_parents = (both (are_distinct (numbers dim) && list_all (λ n. nat_lt n (length dim)) (numbers dim)) (list_all (is_above_parent dim) dim) tree.numbered).1

  above_parent_at : (i : ℕ) → i < length dim → option_map_or (λ p. nat_lt p (number_at dim i)) (parent dim (number_at dim i)) true ≡ true
  above_parent_at i within =
      let at_place : (get_or dim i no_entry).number ≡ number_at dim i = sym (get_or-map (λ (e : Entry). e.number) dim i no_entry 0 within) ∙ sym (at_within (numbers dim) i (omega (arith, length-numbers dim))) in
      ap (λ x. option_map_or (λ p. nat_lt p x) (parent dim x) true) (sym at_place) ∙ passes_at (is_above_parent dim) dim i no_entry above_parents within

  pub parent-below : (x y : ℕ) → x < length dim → parent dim x ≡ Some y → y < x
  parent-below x y within is =
      let its = number_at-place_at dim are_numbers x in
      let above : option_map_or (λ p. nat_lt p x) (parent dim x) true ≡ true = ap (λ n. option_map_or (λ p. nat_lt p n) (parent dim n) true) (sym its) ∙ above_parent_at (place_at dim x) (place_at-within dim are_numbers x within) in
      grind (arith, nat_tests, above, is)

  -- the root comes first and has number 0
  pub place_at-root : place_at dim 0 ≡ 0
  place_at-root =
      let i = place_at dim 0 in
      let within : i < length dim = place_at-within dim are_numbers 0 some_node in
      elim (cases_eq i 0) [
        | inl first ↦ first
        | inr other ↦
            let its : number_at dim i ≡ 0 = number_at-place_at dim are_numbers 0 in
            let y = number_at dim (get_or (parents_from [] (depths_of (node_lines dim))) i 0) in
            let is : parent dim (number_at dim i) ≡ Some y = kept_parent dim are_numbers i accepted_lines within ∙ ap (λ b. if b then None else Some y) (ne_eqb i 0 other) in
            absurd (omega (arith, its, parent-below (number_at dim i) y (number_at-within dim are_numbers i within) is))
      ]

  pub number_at-root : number_at dim 0 ≡ 0
  number_at-root = ap (number_at dim) (sym place_at-root) ∙ number_at-place_at dim are_numbers 0
