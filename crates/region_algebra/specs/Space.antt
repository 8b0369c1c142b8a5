-- Regions of a space over several dimensions: which there are, their codes, and what two of them share.
use Rattle.std.specs.Prelude.{◌≡◌, ℕ, ◌+◌, ◌*◌, Bool, true, false, List, [], ◌∷◌, length, map, filter, nat_lt, ◌&&◌, if◌then◌else◌, Option, Some, None}
use Rattle.std.specs.Option.{option_map, option_map_or, option_and_then}
use Rattle.std.specs.List.{flat_map}
use Rattle.cube_model.specs.Tree.{Dimension, leaves, is_under, place_of}
use Rattle.cube_model.specs.Cells.{cells_of, is_among, leaf_places}

-- the product of numbers
abbrev pub product : List ℕ → ℕ
product [] = 1
product (n ∷ ns) = n * product ns

-- the number of all cells, and of all regions
abbrev pub cell_total : List Dimension → ℕ
cell_total dims = product (map (λ dim. length (leaves dim)) dims)

abbrev pub region_total : List Dimension → ℕ
region_total dims = product (map (λ dim. length dim) dims)

-- a region names one node of each dimension
abbrev pub is_region : List Dimension → List ℕ → Bool
is_region [] [] = true
is_region [] (node ∷ nodes) = false
is_region (dim ∷ dims) [] = false
is_region (dim ∷ dims) (node ∷ nodes) = nat_lt node (length dim) && is_region dims nodes

abbrev pub IsRegion : List Dimension → List ℕ → Type 0
IsRegion dims region = is_region dims region ≡ true

-- All regions, the first dimension slowest. A region's code is its place in this list.
unfoldable pub all_regions : List Dimension → List (List ℕ)
all_regions [] = [] ∷ []
all_regions (dim ∷ dims) = flat_map (λ node. map (λ region. node ∷ region) (all_regions dims)) (map (λ e. e.number) dim)

-- The code of a region: the places of its nodes in mixed radix, the first dimension slowest.
abbrev pub code_of : List Dimension → List ℕ → ℕ
code_of (dim ∷ dims) (node ∷ nodes) = option_map_or (λ place. place) (place_of dim node) 0 * region_total dims + code_of dims nodes
code_of dims nodes = 0

-- the cells that two regions share, ascending
abbrev pub common_cells : List Dimension → List ℕ → List ℕ → List ℕ
common_cells dims a b = filter (is_among (cells_of dims b)) (cells_of dims a)

-- the lower of two nodes of which one is under the other
abbrev pub lower : Dimension → ℕ → ℕ → Option ℕ
lower dim x y = if is_under dim x y then Some x else (if is_under dim y x then Some y else None)

-- in each dimension the lower of the two nodes, where there is one in every dimension
abbrev pub meet_of : List Dimension → List ℕ → List ℕ → Option (List ℕ)
meet_of [] [] [] = Some []
meet_of (dim ∷ dims) (x ∷ xs) (y ∷ ys) = option_and_then (λ node. option_map (λ nodes. node ∷ nodes) (meet_of dims xs ys)) (lower dim x y)
meet_of dims xs ys = None

-- the one cell, where there is one alone
abbrev pub only_cell : List ℕ → Option ℕ
only_cell [] = None
only_cell (cell ∷ []) = Some cell
only_cell (cell ∷ other ∷ cells) = None

-- how many leaves are under each node of a region
abbrev pub leaf_counts : List Dimension → List ℕ → List ℕ
leaf_counts [] region = []
leaf_counts (dim ∷ dims) [] = []
leaf_counts (dim ∷ dims) (node ∷ nodes) = length (leaf_places dim node) ∷ leaf_counts dims nodes

-- the cells that a walk has before it, which are what contracts see of it
abbrev pub cells_left : List ℕ → List ℕ
cells_left cells = cells
