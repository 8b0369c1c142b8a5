-- Marks of spots, and their numbers of facts.
use Rattle.cube_model.specs.declared.edit.Fact.{Fact}
use Rattle.iter_alloc.specs.declared.spots.First.{First}
use Rattle.cube_model.specs.Tree.{Dimension}
use Rattle.iter_alloc.specs.Forest.{at}
use Rattle.iter_alloc.specs.Spotting.{regions_of, spot_of}
use Rattle.iter_alloc.specs.Touching.{IsClosed}
use Rattle.region_algebra.specs.Space.{common_cells}
use Rattle.std.specs.List.{count_by}
use Rattle.std.specs.Prelude.{Option, Some, None, slice_index_or, ◌==◌, ◌≡◌, ℕ, ◌<◌, Bool, false, List, [], length}

abbrev pub is_marked : List Bool → ℕ → Bool
is_marked marks spot = slice_index_or marks spot false

-- the region of a spot
abbrev pub spot_region : List First → ℕ → List ℕ
spot_region firsts spot = slice_index_or (regions_of firsts) spot []

-- of the first so many spots, one whose root is not touched shares no cell with the region
pub record AreTouched (dims : List Dimension) (firsts : List First) (roots region : List ℕ) (count : ℕ) (touched : List Bool) : Type 0 where
  pub as_many : length touched ≡ length firsts
  pub apart : (spot : ℕ) → spot < count → is_marked touched (at roots spot) ≡ false → common_cells dims (spot_region firsts spot) region ≡ []

-- spots of one root are marked alike, and one that is not marked shares no cell with the region
pub record AreRootMarks (dims : List Dimension) (firsts : List First) (roots region : List ℕ) (marks : List Bool) : Type 0 where
  pub as_many : length marks ≡ length firsts
  pub alike : (s t : ℕ) → s < length firsts → t < length firsts → at roots s ≡ at roots t → is_marked marks s ≡ is_marked marks t
  pub apart : (spot : ℕ) → spot < length firsts → is_marked marks spot ≡ false → common_cells dims (spot_region firsts spot) region ≡ []

-- a fact whose spot is marked
abbrev pub is_kept : List Dimension → List First → List Bool → Fact → Bool
is_kept dims firsts marks fact = is_marked marks (spot_of dims firsts fact)

-- of two facts that touch, the spots of both are marked or none is; and one that is not marked shares no cell with the region
pub record AreMarks (dims : List Dimension) (facts : List Fact) (firsts : List First) (region : List ℕ) (marks : List Bool) : Type 0 where
  pub as_many : length marks ≡ length firsts
  pub whole : IsClosed dims (is_kept dims firsts marks) facts
  pub apart : (spot : ℕ) → spot < length firsts → is_marked marks spot ≡ false → common_cells dims (spot_region firsts spot) region ≡ []

-- a fact is of this spot
abbrev pub is_of : ℕ → Option ℕ → Bool
is_of spot None = false
is_of spot (Some s) = s == spot

-- the number of facts of each spot
pub record AreMembers (spots : List (Option ℕ)) (count : ℕ) (members : List ℕ) : Type 0 where
  pub as_many : length members ≡ count
  pub each : (spot : ℕ) → spot < count → at members spot ≡ count_by (is_of spot) spots
