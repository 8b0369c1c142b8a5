-- The space over several dimensions: its cells, their codes, and the cells of a region.
use Rattle.std.specs.Prelude.{ℕ, ◌+◌, ◌<◌, Bool, true, false, List, [], ◌∷◌, All, length, map, ◌&&◌, ◌==◌, if◌then◌else◌}
use Rattle.std.specs.List.{flat_map, list_any}
use Rattle.cube_model.specs.Tree.{Dimension, leaves, is_under}

-- all tuples of one leaf per dimension, the first dimension slowest
unfoldable pub all_cells : List Dimension → List (List ℕ)
all_cells [] = [] ∷ []
all_cells (dim ∷ dims) = flat_map (λ leaf. map (λ cell. leaf ∷ cell) (all_cells dims)) (leaves dim)

-- in every dimension the leaf is under the node of the region
unfoldable pub is_inside : List Dimension → List ℕ → List ℕ → Bool
is_inside [] [] [] = true
is_inside (dim ∷ dims) (node ∷ nodes) (leaf ∷ cell) = is_under dim leaf node && is_inside dims nodes cell
is_inside dims region cell = false

-- the places, counted from k, of the items that pass
abbrev pub places_from : {X : Type 0} → (X → Bool) → ℕ → List X → List ℕ
places_from p k [] = []
places_from p k (x ∷ xs) = if p x then k ∷ places_from p (k + 1) xs else places_from p (k + 1) xs

-- The cells of a region. A cell goes by its code, which is its place in the list of all cells.
unfoldable pub cells_of : List Dimension → List ℕ → List ℕ
cells_of dims region = places_from (is_inside dims region) 0 (all_cells dims)

-- it is one cell alone
abbrev pub is_single : List ℕ → Bool
is_single cells = length cells == 1

-- a cell is one of these
abbrev pub is_among : List ℕ → ℕ → Bool
is_among cells cell = list_any (λ c. c == cell) cells

-- rows whose cells are codes of the space
abbrev pub AreRows : List Dimension → List (ℕ × ℕ) → Type 0
AreRows dims rows = All (λ row. row.0 < length (all_cells dims)) rows

-- the places, among all leaves, of the leaves under a node
unfoldable pub leaf_places : Dimension → ℕ → List ℕ
leaf_places dim node = places_from (λ leaf. is_under dim leaf node) 0 (leaves dim)
