-- A table of places over leaves: for each dimension and each depth the place of the node there that the leaf is under.
use Rattle.std.specs.Prelude.{◌≡◌, ℕ, ◌<◌, ◌≤◌, List, [], ◌∷◌, length, slice_get, slice_index, slice_index_or, Some}
use Rattle.cube_model.specs.Limits.{MAX_DEPTH, MAX_DIMS}
use Rattle.cube_model.specs.Tree.{Dimension}
use Rattle.region_index.specs.declared.climb.TheConstants.{NO_PLACE}
use Rattle.region_index.specs.Patterns.{places_at_depth}

-- what is noted of such places: the only one, which is one of so many; where there is none, what stood there stays
abbrev pub IsNoted : List ℕ → ℕ → ℕ → ℕ → Type 0
IsNoted [] size before entry = entry ≡ before
IsNoted (place ∷ []) size before entry = (entry ≡ place) × (place < size)
IsNoted (place ∷ other ∷ places) size before entry = ⊥

-- at each depth the place is noted of the node there that a node is under, over what stood there
pub record IsRow (dim : Dimension) (node : ℕ) (before : ℕ → ℕ) (row : List ℕ) : Type 0 where
  pub each : (depth : ℕ) → depth ≤ MAX_DEPTH → IsNoted (places_at_depth dim node depth) (length dim) (before depth) (slice_index row depth)

-- There is room for all dimensions, and the first so many have such a row each, of their leaf. Where there is no node of
-- a depth, a mark stands that is no place.
pub record IsTable (dims : List Dimension) (leaves : List ℕ) (n : ℕ) (table : List (List ℕ)) : Type 0 where
  pub room : length table ≡ MAX_DIMS
  pub rows : (d : ℕ) (dim : Dimension) (leaf : ℕ) → d < n → slice_get dims d ≡ Some dim → slice_get leaves d ≡ Some leaf → IsRow dim leaf (λ depth. NO_PLACE) (slice_index_or table d [])
