-- A node's children, and the cut of a dimension at a depth.
use Rattle.std.specs.Prelude.{ℕ, Bool, false, List, [], ◌∷◌, map, filter, nat_lt, ◌||◌, ◌&&◌, ◌==◌, if◌then◌else◌, Option, slice_get}
use Rattle.std.specs.Option.{option_and_then, option_map_or}
use Rattle.cube_model.specs.Tree.{Dimension, Entry, is_leaf, parent}

-- the numbers of the nodes whose parent is n, in order
unfoldable pub children : Dimension → ℕ → List ℕ
children dim n = filter (λ x. option_map_or (λ p. p == n) (parent dim x) false) (map (λ e. e.number) dim)

unfoldable pub first_child : Dimension → ℕ → Option ℕ
first_child dim n = slice_get (children dim n) 0

-- what stands after x
abbrev pub behind : ℕ → List ℕ → List ℕ
behind x [] = []
behind x (y ∷ ys) = if y == x then ys else behind x ys

-- the next node with the same parent
unfoldable pub next_sibling : Dimension → ℕ → Option ℕ
next_sibling dim x = option_and_then (λ p. slice_get (behind x (children dim p)) 0) (parent dim x)

-- the node has this depth, or is a leaf that lies less deep
unfoldable pub in_cut : Dimension → ℕ → Entry → Bool
in_cut dim depth e = e.depth == depth || (nat_lt e.depth depth && is_leaf dim e.number)

-- the nodes in the cut at a depth, in order
unfoldable pub cut : Dimension → ℕ → List ℕ
cut dim depth = map (λ e. e.number) (filter (in_cut dim depth) dim)
