-- In a tree the nodes under a node are those from it up to its end, so two nodes lie one under the other or apart.
use Rattle.std.proofs.Common.{◌≡◌, ℕ, zero, suc, ◌+◌, ◌<◌, ◌≤◌, ◌⊎◌, Bool, true, false, List, [], ◌∷◌, length, get_or, drop, refl, sym, ap, ◌∙◌, inl, inr, true≢false, arith}
use Rattle.std.specs.Prelude.{if◌then◌else◌, ◌&&◌, Some, None, nat_lt, nat_le}
use Rattle.std.proofs.lemmas.Bool.Decides.{nat_tests}
use Rattle.std.proofs.lemmas.List.{length-map}
use Rattle.std.proofs.lemmas.List.FromFn.{length-range_with_len}
use Rattle.std.proofs.Math.Bool.{and_comm}
use Rattle.cube_model.specs.declared.tree.NodeLine.{NodeLine}
use Rattle.cube_model.specs.Tree.{Dimension, IsTree, is_under, leaves, node_lines, numbered}
use Rattle.cube_model.specs.Cells.{leaf_places}
use Rattle.dim_tree.specs.Places.{count_deeper, ends_from}
use Rattle.dim_tree.proofs.Climbing.{depths_of}
use Rattle.dim_tree.proofs.Entries.{length-node_lines}
use Rattle.dim_tree.proofs.Nodes.{is_under-end, ends_from-above}
use Rattle.dim_tree.proofs.Leaves.{leaf_places-range, leaf_range-some, leaf_range-within}
use Rattle.dim_tree.proofs.Outlines.{tree_fault_none}
use Rattle.dim_tree.proofs.Renumbering.{are_numbers, place_at, place_at-within}
use Rattle.region_algebra.proofs.Numbers.{is_under-plain, leaf_places-plain, length-leaves_plain}
use Rattle.region_algebra.specs.Space.{lower}

-- those deeper than a deeper node are fewer
count_deeper-fewer : (f g : ℕ) (ds : List ℕ) → f ≤ g → count_deeper g ds ≤ count_deeper f ds
count_deeper-fewer f g [] deeper = omega arith
count_deeper-fewer f g (d ∷ ds) deeper = grind (arith, nat_tests, count_deeper-fewer f g ds deeper)

-- the nodes under a node that is under another are under the other
deeper-nested : (f : ℕ) (ds : List ℕ) (j : ℕ) → j < count_deeper f ds → j + 1 + count_deeper (get_or ds j 0) (drop (suc j) ds) ≤ count_deeper f ds
deeper-nested f [] j within = absurd (omega arith)
deeper-nested f (d ∷ ds) zero within =
    let deeper : f < d = grind (arith, nat_tests) in
    grind (arith, nat_tests, count_deeper-fewer f d ds (omega arith))
deeper-nested f (d ∷ ds) (suc j) within =
    let deeper : f < d = grind (arith, nat_tests) in
    let fewer : j < count_deeper f ds = grind (arith, nat_tests) in
    grind (arith, nat_tests, deeper-nested f ds j fewer)

-- the end of a node is behind those that are deeper
ends_from-at : (k : ℕ) (ds : List ℕ) (i : ℕ) → i < length ds → get_or (ends_from k ds) i 0 ≡ k + i + 1 + count_deeper (get_or ds i 0) (drop (suc i) ds)
ends_from-at k [] i within = absurd (omega arith)
ends_from-at k (d ∷ ds) zero within = omega arith
ends_from-at k (d ∷ ds) (suc i) within = ends_from-at (k + 1) ds i (omega arith) ∙ omega arith

ends_from-nested : (k : ℕ) (ds : List ℕ) (x y : ℕ) → x < length ds → y ≤ x → k + x < get_or (ends_from k ds) y 0 → get_or (ends_from k ds) x 0 ≤ get_or (ends_from k ds) y 0
ends_from-nested k [] x y within behind under = absurd (omega arith)
ends_from-nested k (d ∷ ds) zero zero within behind under = omega arith
ends_from-nested k (d ∷ ds) zero (suc y) within behind under = absurd (omega arith)
ends_from-nested k (d ∷ ds) (suc x) zero within behind under =
    let inside : x < count_deeper d ds = omega (arith, under) in
    omega (arith, ends_from-at (k + 1) ds x (omega arith), deeper-nested d ds x inside)
ends_from-nested k (d ∷ ds) (suc x) (suc y) within behind under = ends_from-nested (k + 1) ds x y (omega arith) (omega arith) (omega (arith, under))

-- the place behind the last node under a node
abbrev pub end_of : Dimension → ℕ → ℕ
end_of dim y = get_or (ends_from 0 (depths_of (node_lines dim))) y 0

length-depths : (dim : Dimension) → length (depths_of (node_lines dim)) ≡ length dim
length-depths dim = length-map (node_lines dim) (λ (line : NodeLine). line.depth) ∙ length-node_lines dim

-- whether a place is one of a node and of those under it
abbrev is_held : Dimension → ℕ → ℕ → Bool
is_held dim x y = nat_le y x && nat_lt x (end_of dim y)

pub is_under-interval : (dim : Dimension) → IsTree dim → (x y : ℕ) → y < length dim → is_under dim x y ≡ is_held dim (place_at dim x) (place_at dim y)
is_under-interval dim tree x y within =
    let sound = tree_fault_none (node_lines dim) tree.accepted in
    is_under-plain dim tree x y ∙ is_under-end (node_lines dim) sound.2 (place_at dim x) (place_at dim y) (omega (arith, length-node_lines dim, place_at-within dim (are_numbers dim tree) y within))

pub end_of-above : (dim : Dimension) (y : ℕ) → y < length dim → y < end_of dim y
end_of-above dim y within = omega (arith, ends_from-above 0 (depths_of (node_lines dim)) y (omega (arith, length-depths dim)))

pub end_of-nested : (dim : Dimension) (x y : ℕ) → x < length dim → y ≤ x → x < end_of dim y → end_of dim x ≤ end_of dim y
end_of-nested dim x y within behind under = ends_from-nested 0 (depths_of (node_lines dim)) x y (omega (arith, length-depths dim)) behind (omega (arith, under))

-- a tree has a node and a leaf
pub some_node : (dim : Dimension) → IsTree dim → 1 ≤ length dim
some_node dim tree = omega (arith, (tree_fault_none (node_lines dim) tree.accepted).0, length-node_lines dim)

pub some_leaf : (dim : Dimension) → IsTree dim → 1 ≤ length (leaves dim)
some_leaf dim tree =
    let sound = tree_fault_none (node_lines dim) tree.accepted in
    let some : 1 ≤ length (leaves (numbered (node_lines dim))) = omega (arith, leaf_range-some (node_lines dim) sound.2 0 sound.0, leaf_range-within (node_lines dim) sound.2 0 sound.0) in
    omega (arith, length-leaves_plain dim tree, some)

-- and a leaf is under each node
pub some_leaf_under : (dim : Dimension) (node : ℕ) → IsTree dim → node < length dim → 1 ≤ length (leaf_places dim node)
some_leaf_under dim node tree within =
    let lines = node_lines dim in
    let sound = tree_fault_none lines tree.accepted in
    let place = place_at dim node in
    let inside : place < length lines = omega (arith, length-node_lines dim, place_at-within dim (are_numbers dim tree) node within) in
    rw (leaf_places-plain dim tree node, leaf_places-range lines sound.2 place inside) (omega (arith, length-range_with_len, leaf_range-some lines sound.2 place inside))

-- of two intervals one holds the other, or they are apart
nested_intervals : (x y ex ey z : ℕ) → x < ex → y ≤ x → x < ey → ex ≤ ey → (nat_le x z && nat_lt z ex) ≡ ((nat_le x z && nat_lt z ex) && (nat_le y z && nat_lt z ey))
nested_intervals x y ex ey z some behind under nested = grind (arith, nat_tests)

abbrev under_both : Dimension → ℕ → ℕ → ℕ → Bool
under_both dim x y z = is_under dim z x && is_under dim z y

module _ (dim : Dimension) (tree : IsTree dim) (x y : ℕ) (first : x < length dim) (second : y < length dim) where
  -- what is under the lower of two nodes is under both
  under-nested : is_under dim x y ≡ true → (z : ℕ) → is_under dim z x ≡ under_both dim x y z
  under-nested under z =
      let i = place_at dim x in
      let j = place_at dim y in
      let inside : is_held dim i j ≡ true = sym (is_under-interval dim tree x y second) ∙ under in
      let behind : j ≤ i = grind (arith, nat_tests, inside) in
      let before : i < end_of dim j = grind (arith, nat_tests, inside) in
      let first_at : i < length dim = place_at-within dim (are_numbers dim tree) x first in
      rw (is_under-interval dim tree z x first, is_under-interval dim tree z y second)
      (nested_intervals i j (end_of dim i) (end_of dim j) (place_at dim z) (end_of-above dim i first_at) behind before (end_of-nested dim i j first_at behind before))

-- of two nodes of which none is under the other, no node is under both
apart_intervals : (x y ex ey z : ℕ) → (nat_le y x && nat_lt x ey) ≡ false → (nat_le x y && nat_lt y ex) ≡ false → ((nat_le x z && nat_lt z ex) && (nat_le y z && nat_lt z ey)) ≡ false
apart_intervals x y ex ey z not_under not_above = grind (arith, nat_tests)

pub under-apart : (dim : Dimension) → IsTree dim → (x y : ℕ) → x < length dim → y < length dim → is_under dim x y ≡ false → is_under dim y x ≡ false → (z : ℕ) → under_both dim x y z ≡ false
under-apart dim tree x y first second not_under not_above z =
    rw (is_under-interval dim tree z x first, is_under-interval dim tree z y second)
    (apart_intervals (place_at dim x) (place_at dim y) (end_of dim (place_at dim x)) (end_of dim (place_at dim y)) (place_at dim z) (sym (is_under-interval dim tree x y second) ∙ not_under) (sym (is_under-interval dim tree y x first) ∙ not_above))

lower_of : (dim : Dimension) (x y m : ℕ) (a b : Bool) → (if a then Some x else (if b then Some y else None)) ≡ Some m → ((a ≡ true) × (m ≡ x)) ⊎ ((b ≡ true) × (m ≡ y))
lower_of dim x y m true b is = inl (refl, sym (grind arith))
lower_of dim x y m false true is = inr (refl, sym (grind arith))
lower_of dim x y m false false is = absurd (grind arith)

lower_not : (x y : ℕ) (a b : Bool) → (if a then Some x else (if b then Some y else None)) ≡ None → (a ≡ false) × (b ≡ false)
lower_not x y true b is = absurd (grind arith)
lower_not x y false true is = absurd (grind arith)
lower_not x y false false is = (refl, refl)

pub under-lower : (dim : Dimension) → IsTree dim → (x y : ℕ) → x < length dim → y < length dim → (m : ℕ) → lower dim x y ≡ Some m → (z : ℕ) → is_under dim z m ≡ (is_under dim z x && is_under dim z y)
under-lower dim tree x y first second m is z = elim (lower_of dim x y m (is_under dim x y) (is_under dim y x) is) [
  | inl h ↦ ap (is_under dim z) h.1 ∙ under-nested dim tree x y first second h.0 z
  | inr h ↦ ap (is_under dim z) h.1 ∙ under-nested dim tree y x second first h.0 z ∙ and_comm (is_under dim z y) (is_under dim z x)
]

pub under-none : (dim : Dimension) → IsTree dim → (x y : ℕ) → x < length dim → y < length dim → lower dim x y ≡ None → (z : ℕ) → (is_under dim z x && is_under dim z y) ≡ false
under-none dim tree x y first second is z =
    let apart = lower_not x y (is_under dim x y) (is_under dim y x) is in
    under-apart dim tree x y first second apart.0 apart.1 z

-- the lower node is one of the two
pub lower-within : (dim : Dimension) (x y n m : ℕ) → x < n → y < n → lower dim x y ≡ Some m → m < n
lower-within dim x y n m first second is = elim (lower_of dim x y m (is_under dim x y) (is_under dim y x) is) [
  | inl h ↦ omega (arith, h.1)
  | inr h ↦ omega (arith, h.1)
]

both-absurd : (a b : Bool) → (a && b) ≡ false → a ≡ true → b ≡ true → ⊥
both-absurd true b apart first second = true≢false (sym second ∙ apart)
both-absurd false b apart first second = true≢false (sym first)

apart_or : (dim : Dimension) → IsTree dim → (x y : ℕ) → x < length dim → y < length dim → (a b : Bool) → is_under dim x y ≡ a → is_under dim y x ≡ b
    → (is_under dim x y ≡ true) ⊎ ((is_under dim y x ≡ true) ⊎ ((z : ℕ) → z < length dim → is_under dim z x ≡ true → is_under dim z y ≡ true → ⊥))
apart_or dim tree x y first second true b under above = inl under
apart_or dim tree x y first second false true under above = inr (inl above)
apart_or dim tree x y first second false false under above =
    inr (inr (λ z within below_x below_y. both-absurd (is_under dim z x) (is_under dim z y) (under-apart dim tree x y first second under above z) below_x below_y))

pub nested_or_apart : (dim : Dimension) (x y : ℕ) → IsTree dim → x < length dim → y < length dim
    → (is_under dim x y ≡ true) ⊎ ((is_under dim y x ≡ true) ⊎ ((z : ℕ) → z < length dim → is_under dim z x ≡ true → is_under dim z y ≡ true → ⊥))
nested_or_apart dim x y tree first second = apart_or dim tree x y first second (is_under dim x y) (is_under dim y x) refl refl
