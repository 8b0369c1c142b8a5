-- A walk through the regions over a cell: which it meets, and what it does there.
use Rattle.std.specs.Prelude.{◌≡◌, ℕ, ◌+◌, ◌*◌, ◌<◌, ◌≤◌, All, List, [], ◌∷◌, ◌++◌, drop, length, map}
use Rattle.std.specs.List.{flat_map}
use Rattle.std.specs.Option.{option_map_or}
use Rattle.cube_model.specs.Cells.{is_inside, places_from}
use Rattle.cube_model.specs.Limits.{MAX_DIMS, SPACE_LIMIT}
use Rattle.cube_model.specs.Tree.{Dimension, IsTree, is_under, numbers, parent}
use Rattle.region_algebra.specs.Space.{IsRegion, all_regions, region_total}
use Rattle.region_index.specs.Content.{Content, held_codes}

-- the codes of the regions whose nodes these leaves are under
unfoldable pub codes_of_leaves : List Dimension → List ℕ → List ℕ
codes_of_leaves dims leaves = places_from (λ region. is_inside dims region leaves) 0 (all_regions dims)

-- the same after the nodes of earlier dimensions, which make `code`
abbrev pub codes_behind : List Dimension → List ℕ → ℕ → List ℕ
codes_behind dims leaves code = map (λ c. code * region_total dims + c) (codes_of_leaves dims leaves)

-- the places of the nodes that a node is under, itself included, ascending
unfoldable pub places_over : Dimension → ℕ → List ℕ
places_over dim node = places_from (is_under dim node) 0 (numbers dim)

-- the same where of the first dimension only the nodes count that a node is under
abbrev pub codes_above : List Dimension → List ℕ → ℕ → ℕ → List ℕ
codes_above [] leaves node code = []
codes_above (dim ∷ dims) leaves node code = flat_map (λ place. codes_behind dims leaves (code * length dim + place)) (places_over dim node)

-- the same without the node itself: only the nodes count that its parent is under
abbrev pub codes_higher : List Dimension → List ℕ → ℕ → ℕ → List ℕ
codes_higher [] leaves node code = []
codes_higher (dim ∷ dims) leaves node code = option_map_or (λ p. codes_above (dim ∷ dims) leaves p code) (parent dim node) []

-- A walk through the regions over these leaves that has reached dimension d, the nodes of the dimensions before it
-- making `code`. Whatever the other nodes are, the code is that of a region.
pub record IsOnTheWay (dims : List Dimension) (leaves : List ℕ) (d code : ℕ) : Type 0 where
  pub named : IsRegion dims leaves
  pub trees : All IsTree dims
  pub few : length dims ≤ MAX_DIMS
  pub limit : region_total dims < SPACE_LIMIT
  pub within : d ≤ length dims
  pub fits : (code + 1) * region_total (drop d dims) ≤ region_total dims

-- what probes of these codes do: those at which ids are held are found, and each probe is a step
pub record Probes (content : Content) (codes before after : List ℕ) (steps_before steps_after : ℕ) : Type 0 where
  pub found : after ≡ before ++ held_codes content codes
  pub steps : steps_after ≡ steps_before + length codes
