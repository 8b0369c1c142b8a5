-- The regions that have a cell in common with a region, and the way to them dimension by dimension.
use Rattle.std.specs.Prelude.{◌≡◌, ℕ, ◌+◌, ◌*◌, ◌<◌, ◌≤◌, Bool, true, false, List, [], ◌∷◌, length, map, nat_le, nat_lt, ◌&&◌, ◌||◌, Some, slice_get}
use Rattle.std.specs.List.{flat_map, list_any}
use Rattle.cube_model.specs.Cells.{cells_of, is_among, places_from}
use Rattle.cube_model.specs.Tree.{Dimension, is_under, numbers}
use Rattle.region_algebra.specs.Space.{all_regions}

-- The codes of the regions that have a cell in common with a region, ascending: of all regions' codes those at which the
-- cells of the two have one in common.
unfoldable pub codes_touching : List Dimension → List ℕ → List ℕ
codes_touching dims region = places_from (λ other. list_any (is_among (cells_of dims other)) (cells_of dims region)) 0 (all_regions dims)

-- of two nodes one is under the other
abbrev pub are_in_line : Dimension → ℕ → ℕ → Bool
are_in_line dim x y = is_under dim x y || is_under dim y x

-- of the nodes of two regions in each dimension
abbrev pub are_all_in_line : List Dimension → List ℕ → List ℕ → Bool
are_all_in_line [] [] [] = true
are_all_in_line (dim ∷ dims) (x ∷ xs) (y ∷ ys) = are_in_line dim x y && are_all_in_line dims xs ys
are_all_in_line dims xs ys = false

-- the places of the nodes in line with a node, ascending
unfoldable pub places_in_line : Dimension → ℕ → List ℕ
places_in_line dim node = places_from (are_in_line dim node) 0 (numbers dim)

-- the codes of the regions in line with a region, ascending
unfoldable pub codes_in_line : List Dimension → List ℕ → List ℕ
codes_in_line dims region = places_from (are_all_in_line dims region) 0 (all_regions dims)

-- the codes after each place, where so many stand after one
abbrev pub codes_behind_places : List ℕ → ℕ → List ℕ → List ℕ
codes_behind_places places step codes = flat_map (λ place. map (λ code. place * step + code) codes) places

-- the nodes under a node are those from its place on, up to an end
pub record AreUnderUpTo (dim : Dimension) (node place end : ℕ) : Type 0 where
  pub each : (i x : ℕ) → slice_get (numbers dim) i ≡ Some x → is_under dim x node ≡ (nat_le place i && nat_lt i end)
  pub some : place < end
  pub within : end ≤ length dim
