-- What is kept for a node answers the questions about it.
use Rattle.std.proofs.Common.{◌≡◌, ℕ, ◌+◌, ◌<◌, ◌≤◌, Bool, true, false, List, [], ◌∷◌, length, get_or, slice_get, Some, None, option_map, ◌&&◌, ◌||◌, ◌==◌, nat_lt, nat_le, if◌then◌else◌, zero, suc, refl, sym, ap, ◌∙◌, inl, inr, eq-eqb, ne_eqb, arith}
use Rattle.std.proofs.lemmas.Bool.{cases_eq, cases_lt}
use Rattle.std.proofs.lemmas.Bool.Decides.{nat_tests}
use Rattle.std.proofs.lemmas.List.{length-map}
use Rattle.cube_model.specs.declared.tree.NodeLine.{NodeLine}
use Rattle.cube_model.specs.Tree.{Dimension, Entry, IsTree, numbers, numbered_from, node_lines, entry_of, parent, is_leaf, is_under, leaves, place_of}
use Rattle.cube_model.specs.Cells.{leaf_places}
use Rattle.cube_model.specs.Cut.{first_child, in_cut, next_sibling}
use Rattle.dim_tree.specs.declared.node.Node.{Node}
use Rattle.dim_tree.specs.Nodes.{IsNode, node_at, node_end}
use Rattle.dim_tree.specs.Places.{parents_from, ends_from}
use Rattle.dim_tree.proofs.Climbing.{depths_of}
use Rattle.dim_tree.proofs.Rising.{first_fault-shallow}
use Rattle.dim_tree.proofs.Nodes.{is_leaf-end, is_under-end, ends_from-above, ends_from-within}
use Rattle.dim_tree.proofs.Leaves.{leaf_places-range, leaf_range-some, leaf_range-within}
use Rattle.dim_tree.proofs.Numbers.{at_within}
use Rattle.dim_tree.proofs.Passes.{shallow_at}
use Rattle.dim_tree.proofs.Entries.{entry_of-numbered, length-node_lines}
use Rattle.dim_tree.proofs.Siblings.{parent_at-within, first_child-place, next_sibling-place}
use Rattle.dim_tree.proofs.Renumbering.{plain, number_at, length-numbers, number_at-read, number_at-within, number_at-same, number_at-eqb, number_at-place, number_at-root, entry_of-number_at, is_under-number_at, is_leaf-number_at, leaves-number_at, leaf_places-number_at, first_child-number_at, next_sibling-number_at, in_cut-number_at, option_map-unless, kept_parent, parent-below, accepted_lines, are_numbers}

-- the depth of the node at a place
pub depth-read : (dim : Dimension) (i : ℕ) → i < length dim → option_map (λ e. e.depth) (slice_get dim i) ≡ Some (get_or (depths_of (node_lines dim)) i 0)
depth-read [] i within = absurd (omega arith)
depth-read (e ∷ dim) zero within = refl
depth-read (e ∷ dim) (suc i) within = depth-read dim i (omega arith)

-- whether the node at a place is in the cut at a depth
in_cut-numbered : (dim : Dimension) (depth k : ℕ) (lines : List NodeLine) (n x : ℕ) → x ≡ k + n → n < length lines → option_map (in_cut dim depth) (slice_get (numbered_from k lines) n) ≡ Some (get_or (depths_of lines) n 0 == depth || (nat_lt (get_or (depths_of lines) n 0) depth && is_leaf dim x))
unfolding in_cut
in_cut-numbered dim depth k [] n x at within = absurd (omega arith)
in_cut-numbered dim depth k (line ∷ lines) zero x at within =
    let same : k ≡ x = omega arith in
    ap (λ y. Some (line.depth == depth || (nat_lt line.depth depth && is_leaf dim y))) same
in_cut-numbered dim depth k (line ∷ lines) (suc n) x at within = in_cut-numbered dim depth (k + 1) lines n x (omega arith) (omega arith)

-- the image of a number, where there is one
option_map-where : (f : ℕ → ℕ) (b : Bool) (p : ℕ) → option_map f (if b then Some p else None) ≡ (if b then Some (f p) else None)
option_map-where f true p = refl
option_map-where f false p = refl

module _ (dim : Dimension) (tree : IsTree dim) (n i : ℕ) (found : place_of dim n ≡ Some i) where
  -- the depths in preorder
  abbrev depths : List ℕ
  depths = depths_of (node_lines dim)

  -- the place behind the last node under the one at a place
  abbrev end_of : ℕ → ℕ
  end_of j = get_or (ends_from 0 depths) j 0

  -- the place of the parent
  abbrev above : ℕ
  above = get_or (parents_from [] depths) i 0

  -- what is kept
  abbrev kept : Node
  kept = node_at depths (numbers dim) i

  at : number_at dim i ≡ n
  at = (number_at-place dim (are_numbers dim tree) n i found).0

  within : i < length dim
  within = (number_at-place dim (are_numbers dim tree) n i found).1

  in_lines : i < length (node_lines dim)
  in_lines = omega (arith, within, length-node_lines dim)

  few : length depths ≡ length dim
  few = length-map (node_lines dim) (λ (line : NodeLine). line.depth) ∙ length-node_lines dim

  above_within : above < length dim
  above_within = omega (arith, parent_at-within (node_lines dim) (accepted_lines dim tree) i in_lines, length-node_lines dim)

  end_least : i < end_of i
  end_least = omega (arith, ends_from-above 0 depths i (omega (arith, few, within)))

  end_most : (j : ℕ) → j < length dim → end_of j ≤ length dim
  end_most j inside = omega (arith, few, ends_from-within 0 depths j (omega (arith, few)))

  -- the number of the parent
  above_is : number_at dim above ≡ kept.parent
  above_is = at_within (numbers dim) above (omega (arith, above_within, length-numbers dim))

  first : (i == 0) ≡ (n == 0)
  first = sym (number_at-eqb dim (are_numbers dim tree) i 0) ∙ ap (λ m. number_at dim i == m) (number_at-root dim tree) ∙ ap (λ m. m == 0) at

  parent_kept : parent dim n ≡ (if n == 0 then None else Some kept.parent)
  parent_kept = ap (parent dim) (sym at) ∙ kept_parent dim (are_numbers dim tree) i (accepted_lines dim tree) within ∙ ap (λ b. if b then None else Some (number_at dim above)) first ∙ ap (λ m. if n == 0 then None else Some m) above_is

  n_within : n < length dim
  n_within = omega (arith, at, number_at-within dim (are_numbers dim tree) i within)

  below : 0 < n → kept.parent < n
  below some = parent-below dim tree n kept.parent n_within (parent_kept ∙ ap (λ b. if b then None else Some kept.parent) (ne_eqb n 0 (λ none. omega arith)))

  leaf_kept : is_leaf dim n ≡ (end_of i == i + 1)
  leaf_kept = ap (is_leaf dim) (sym at) ∙ is_leaf-number_at dim (are_numbers dim tree) i ∙ is_leaf-end (node_lines dim) (accepted_lines dim tree) i in_lines

  under_kept : (x j : ℕ) → place_of dim x ≡ Some j → is_under dim x n ≡ (nat_le i j && nat_lt j (end_of i))
  under_kept x j there =
      let its = (number_at-place dim (are_numbers dim tree) x j there).0 in
      ap (λ y. is_under dim y n) (sym its) ∙ ap (is_under dim (number_at dim j)) (sym at) ∙ is_under-number_at dim (are_numbers dim tree) j i ∙ is_under-end (node_lines dim) (accepted_lines dim tree) j i in_lines

  child_kept : first_child dim n ≡ (if end_of i == i + 1 then None else option_map (λ e. e.number) (slice_get dim (i + 1)))
  child_kept =
      ap (first_child dim) (sym at) ∙ first_child-number_at dim (are_numbers dim tree) i ∙ ap (option_map (number_at dim)) (first_child-place (node_lines dim) (accepted_lines dim tree) i in_lines) ∙ option_map-unless (number_at dim) (end_of i == i + 1) (i + 1)
      ∙ elim (cases_eq (end_of i) (i + 1)) [
        | inl leaf ↦ ap (λ b. if b then None else Some (number_at dim (i + 1))) (eq-eqb _ _ leaf) ∙ ap (λ b. if b then None else option_map (λ (e : Entry). e.number) (slice_get dim (i + 1))) (sym (eq-eqb _ _ leaf))
        | inr more ↦ ap (λ o. if end_of i == i + 1 then None else o) (sym (number_at-read dim (i + 1) (omega (arith, more, end_least, end_most i within))))
      ]

  sibling_kept : (j : ℕ) → place_of dim kept.parent ≡ Some j → next_sibling dim n ≡ (if nat_lt (end_of i) (node_end dim j) then option_map (λ e. e.number) (slice_get dim (end_of i)) else None)
  sibling_kept j there =
      let same : above ≡ j = number_at-same dim (are_numbers dim tree) above j (above_is ∙ sym (number_at-place dim (are_numbers dim tree) kept.parent j there).0) in
      ap (next_sibling dim) (sym at) ∙ next_sibling-number_at dim (are_numbers dim tree) i ∙ ap (option_map (number_at dim)) (next_sibling-place (node_lines dim) (accepted_lines dim tree) i in_lines) ∙ option_map-where (number_at dim) (nat_lt (end_of i) (end_of above)) (end_of i)
      ∙ ap (λ m. if nat_lt (end_of i) (end_of m) then Some (number_at dim (end_of i)) else None) same ∙ elim (cases_lt (end_of i) (end_of j)) [
        | inl more ↦ ap (λ o. if nat_lt (end_of i) (end_of j) then o else None) (sym (number_at-read dim (end_of i) (omega (arith, more, same, above_within, end_most j (omega (arith, same, above_within))))))
        | inr last ↦ grind (arith, nat_tests)
      ]

  cut_kept : (depth : ℕ) → option_map (in_cut dim depth) (entry_of dim n) ≡ Some (get_or depths i 0 == depth || (nat_lt (get_or depths i 0) depth && is_leaf dim n))
  cut_kept depth =
      ap (λ m. option_map (in_cut dim depth) (entry_of dim m)) (sym at) ∙ in_cut-number_at dim (are_numbers dim tree) depth i ∙ ap (option_map (in_cut (plain dim) depth)) (entry_of-numbered (node_lines dim) i) ∙ in_cut-numbered (plain dim) depth 0 (node_lines dim) i i (omega arith) in_lines
      ∙ ap (λ b. Some (get_or depths i 0 == depth || (nat_lt (get_or depths i 0) depth && b))) (sym (is_leaf-number_at dim (are_numbers dim tree) i) ∙ ap (is_leaf dim) at)

  -- all of it
  pub node_is : IsNode dim n i (node_at (depths_of (node_lines dim)) (numbers dim) i)
  node_is = record {
    of_tree = tree;
    depth_is = ap (λ m. option_map (λ (e : Entry). e.depth) (entry_of dim m)) (sym at) ∙ ap (option_map (λ (e : Entry). e.depth)) (entry_of-number_at dim (are_numbers dim tree) i) ∙ depth-read dim i within;
    depth_most = shallow_at depths i (first_fault-shallow [] 0 (node_lines dim) (accepted_lines dim tree)) (omega (arith, few, within));
    number_is = sym (at_within (numbers dim) i (omega (arith, within, length-numbers dim))) ∙ at;
    parent_is = parent_kept;
    parent_within = omega (arith, above_is, number_at-within dim (are_numbers dim tree) above above_within);
    parent_below = below;
    end_is = refl;
    end_above = end_least;
    end_within = end_most i within;
    leaf_is = leaf_kept;
    under_is = under_kept;
    child_is = child_kept;
    sibling_is = sibling_kept;
    cut_is = cut_kept;
    range_is = ap (leaf_places dim) (sym at) ∙ leaf_places-number_at dim (are_numbers dim tree) i ∙ leaf_places-range (node_lines dim) (accepted_lines dim tree) i in_lines;
    range_some = leaf_range-some (node_lines dim) (accepted_lines dim tree) i in_lines;
    range_within = omega (arith, leaf_range-within (node_lines dim) (accepted_lines dim tree) i in_lines, ap length (leaves-number_at dim (are_numbers dim tree)), length-map (leaves (plain dim)) (number_at dim));
  }
