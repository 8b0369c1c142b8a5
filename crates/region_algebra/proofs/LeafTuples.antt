-- Cells are tuples of leaves, and a code is among the cells of a region where its tuple is inside.
use Rattle.std.proofs.Common.{◌≡◌, ℕ, zero, suc, ◌+◌, ◌<◌, Bool, true, false, List, [], ◌∷◌, length, map, refl, ◌∙◌, arith}
use Rattle.std.specs.Prelude.{if◌then◌else◌, All, ◌&&◌, nat_lt, slice_get}
use Rattle.std.specs.List.{list_all}
use Rattle.std.specs.Option.{option_map_or}
use Rattle.std.proofs.lemmas.Bool.Decides.{nat_tests}
use Rattle.std.proofs.lemmas.List.Folds.{list_all-append}
use Rattle.std.proofs.lemmas.List.Elements.{All-head, All-tail}
use Rattle.cube_model.specs.Tree.{Dimension, IsTree, is_leaf, leaves, numbers}
use Rattle.cube_model.specs.Cells.{all_cells, cells_of, is_among, is_inside, places_from}
use Rattle.region_algebra.proofs.Codes.{blocks}
use Rattle.region_algebra.proofs.Meets.{among-here, not_among}
use Rattle.region_algebra.proofs.Numbers.{all-filter, is_below, numbers-below}
use Rattle.dim_tree.proofs.Climbing.{both}

-- every cell is a tuple of leaves

abbrev pub is_node_leaf : Dimension → ℕ → Bool
is_node_leaf dim z = is_leaf dim z && nat_lt z (length dim)

abbrev pub are_leaves : List Dimension → List ℕ → Bool
are_leaves [] [] = true
are_leaves [] (z ∷ cell) = false
are_leaves (dim ∷ dims) [] = false
are_leaves (dim ∷ dims) (z ∷ cell) = is_node_leaf dim z && are_leaves dims cell

leaves-are : (dim : Dimension) → IsTree dim → list_all (is_node_leaf dim) (leaves dim) ≡ true
unfolding leaves
leaves-are dim tree = all-filter (is_leaf dim) (is_below (length dim)) (numbers dim) (numbers-below dim tree)

block-are : (dim : Dimension) (dims : List Dimension) (x : ℕ) (ts : List (List ℕ)) → is_node_leaf dim x ≡ true → list_all (are_leaves dims) ts ≡ true → list_all (are_leaves (dim ∷ dims)) (map (λ t. x ∷ t) ts) ≡ true
block-are dim dims x [] leaf each = refl
block-are dim dims x (t ∷ ts) leaf each =
    let parts = both (are_leaves dims t) (list_all (are_leaves dims) ts) each in
    rw (leaf, parts.0) (block-are dim dims x ts leaf parts.1)

blocks-are : (dim : Dimension) (dims : List Dimension) (xs : List ℕ) (ts : List (List ℕ)) → list_all (is_node_leaf dim) xs ≡ true → list_all (are_leaves dims) ts ≡ true → list_all (are_leaves (dim ∷ dims)) (blocks xs ts) ≡ true
blocks-are dim dims [] ts firsts each = refl
blocks-are dim dims (x ∷ xs) ts firsts each =
    let parts = both (is_node_leaf dim x) (list_all (is_node_leaf dim) xs) firsts in
    list_all-append (are_leaves (dim ∷ dims)) (map (λ t. x ∷ t) ts) (blocks xs ts) ∙ rw (block-are dim dims x ts parts.0 each) (blocks-are dim dims xs ts parts.1 each)

pub cells-are : (dims : List Dimension) → All IsTree dims → list_all (are_leaves dims) (all_cells dims) ≡ true
unfolding all_cells
cells-are [] trees = refl
cells-are (dim ∷ dims) trees = blocks-are dim dims (leaves dim) (all_cells dims) (leaves-are dim (All-head IsTree dim dims trees)) (cells-are dims (All-tail IsTree dim dims trees))

-- a code is among the places where what is at it passes

among-behind : (b : Bool) (m k : ℕ) (cells : List ℕ) → m < k → is_among (if b then m ∷ cells else cells) k ≡ is_among cells k
among-behind true m k cells before = grind (arith, nat_tests)
among-behind false m k cells before = refl

is_among-places : {X : Type 0} (p : X → Bool) (k i c : ℕ) (xs : List X) → c ≡ k + i → is_among (places_from p k xs) c ≡ option_map_or p (slice_get xs i) false
is_among-places p k i c [] at = refl
is_among-places p k zero c (x ∷ xs) at =
    let here : c ≡ k = omega (arith, at) in
    rw here (among-here (p x) k (places_from p (k + 1) xs) (not_among p k (k + 1) xs (omega arith)))
is_among-places p k (suc i) c (x ∷ xs) at = among-behind (p x) k c (places_from p (k + 1) xs) (omega arith) ∙ is_among-places p (k + 1) i c xs (omega arith)

pub is_among-inside : (dims : List Dimension) (region : List ℕ) (cell : ℕ) → is_among (cells_of dims region) cell ≡ option_map_or (is_inside dims region) (slice_get (all_cells dims) cell) false
unfolding cells_of
is_among-inside dims region cell = is_among-places (is_inside dims region) 0 cell cell (all_cells dims) (omega arith)
