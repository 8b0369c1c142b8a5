-- The nodes of a cut over leaves, the regions of a product of cuts over cells, and all regions where the cuts of a view meet.
use Rattle.std.specs.Prelude.{◌≡◌, ℕ, ◌*◌, ◌<◌, All, Bool, IfSome, Option, Some, true, false, List, [], ◌∷◌, is_some, length, map, filter, nat_le, nat_lt, ◌==◌, ◌&&◌, ◌||◌}
use Rattle.std.specs.List.{flat_map}
use Rattle.std.specs.Option.{option_map_or}
use Rattle.cube_model.specs.Cells.{cells_of, is_among, is_inside}
use Rattle.cube_model.specs.Cut.{cut}
use Rattle.cube_model.specs.Tree.{Dimension, entry_of, is_leaf, is_under, place_of}
use Rattle.group_sum.specs.Terms.{TermList}
use Rattle.view_store.specs.Views.{is_in_view, region_at}

-- the product of the cuts at these depths, one for each dimension: its regions have a node of its cut in each
pub record CutProduct : Type 0 where
  pub dims : List Dimension
  pub depths : List ℕ

-- a node of the cut at a depth, and another is under it
pub record IsCutNode (dim : Dimension) (depth low node : ℕ) : Type 0 where
  pub within : node < length dim
  pub over : is_under dim low node ≡ true
  pub in_cut : is_among (cut dim depth) node ≡ true

-- a node reaches the cut at a depth where it lies there or deeper, or is a leaf
abbrev pub reaches_cut : Dimension → ℕ → ℕ → Bool
reaches_cut dim depth node = option_map_or (λ e. nat_le depth e.depth) (entry_of dim node) false || is_leaf dim node

-- what a node adds to the code: the place of the node of the cut over it, so many times
pub record IsShareOver (dim : Dimension) (depth step low share : ℕ) : Type 0 where
  pub node : ℕ
  pub over : IsCutNode dim depth low node
  pub place : ℕ
  pub placed : place_of dim node ≡ Some place
  pub is : share ≡ place * step

-- it adds something exactly where it reaches the cut
pub record IsShareOf (dim : Dimension) (depth step low : ℕ) (share : Option ℕ) : Type 0 where
  pub reached : is_some share ≡ reaches_cut dim depth low
  pub over : IfSome share (IsShareOver dim depth step low)

-- the nodes of a region reach the cuts in every dimension
abbrev pub reaches_cuts : List Dimension → List ℕ → List ℕ → Bool
reaches_cuts [] [] [] = true
reaches_cuts (dim ∷ dims) (depth ∷ depths) (node ∷ nodes) = reaches_cut dim depth node && reaches_cuts dims depths nodes
reaches_cuts dims depths nodes = false

-- the code of a region of the product of the cuts, and of all these regions it is the one that holds the cell
pub record IsCodeOver (dims : List Dimension) (depths : List ℕ) (cell code : ℕ) : Type 0 where
  pub in_view : is_in_view dims depths code ≡ true
  pub only : (other : ℕ) → is_in_view dims depths other ≡ true → is_among (cells_of dims (region_at dims other)) cell ≡ (other == code)

-- the code of a region of the product of the cuts under which a region lies
pub record HoldsRegion (dims : List Dimension) (depths region : List ℕ) (code : ℕ) : Type 0 where
  pub in_view : is_in_view dims depths code ≡ true
  pub under : is_inside dims (region_at dims code) region ≡ true

-- the code of a region of the product of the cuts, and of all these regions it is the one that holds each cell of a region
pub record HoldsCells (dims : List Dimension) (depths region : List ℕ) (code : ℕ) : Type 0 where
  pub in_view : is_in_view dims depths code ≡ true
  pub each : (cell : ℕ) → is_among (cells_of dims region) cell ≡ true → IsCodeOver dims depths cell code

-- the same of the cells of rows
pub record HoldsRows (dims : List Dimension) (depths : List ℕ) (rows : List (ℕ × ℕ)) (code : ℕ) : Type 0 where
  pub in_view : is_in_view dims depths code ≡ true
  pub each : All (λ row. IsCodeOver dims depths row.0 code) rows

-- nodes before each of these regions
abbrev pub regions_behind : List ℕ → List (List ℕ) → List (List ℕ)
regions_behind nodes regions = flat_map (λ node. map (λ region. node ∷ region) regions) nodes

-- the product of the cuts at depths, the first dimension slowest
abbrev pub cut_regions : List Dimension → List ℕ → List (List ℕ)
cut_regions [] [] = [] ∷ []
cut_regions [] (depth ∷ depths) = []
cut_regions (dim ∷ dims) [] = []
cut_regions (dim ∷ dims) (depth ∷ depths) = regions_behind (cut dim depth) (cut_regions dims depths)

-- regions with their terms, without those that have none
abbrev pub entries_of : (List ℕ → TermList) → List (List ℕ) → List (List ℕ × TermList)
entries_of terms_of regions = filter (λ entry. nat_lt 0 (length entry.1.terms)) (map (λ region. (region, terms_of region)) regions)
