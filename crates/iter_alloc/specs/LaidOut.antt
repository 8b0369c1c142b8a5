-- Cells at places: a cell's place is where it stands in a list of cells without repeats.
use Rattle.iter_alloc.specs.declared.rounds.Span.{Span}
use Rattle.iter_alloc.specs.declared.spots.First.{First}
use Rattle.cube_model.specs.Cells.{cells_of}
use Rattle.cube_model.specs.Limits.{MAX_CELLS}
use Rattle.cube_model.specs.Tree.{Dimension}
use Rattle.iter_alloc.specs.Forest.{at}
use Rattle.iter_alloc.specs.Places.{Part, parts}
use Rattle.iter_alloc.specs.Spotting.{is_among_codes, place_in, regions_of}
use Rattle.std.specs.List.{sum_by, range_with_len}
use Rattle.std.specs.Prelude.{All, if◌then◌else◌, slice_index_or, ◌≡◌, ℕ, ◌<◌, ◌≤◌, Bool, true, false, List, [], ◌++◌, length, map}

-- each cell of the list stands at its place, so none stands there twice
pub record AreOwnPlaces (keys : List ℕ) : Type 0 where
  pub own : (i : ℕ) → i < length keys → place_in keys (at keys i) ≡ i

-- a cell keeps the place that it has
pub record KeepsPlace (before keys : List ℕ) (cell : ℕ) : Type 0 where
  pub has : is_among_codes keys cell ≡ true
  pub place : place_in keys cell ≡ place_in before cell

-- places of some cells were appended, and those of others were kept
pub record AreNumbered (before keys begun flat cells : List ℕ) : Type 0 where
  pub longer : length before ≤ length keys
  pub kept : (cell : ℕ) → is_among_codes before cell ≡ true → KeepsPlace before keys cell
  pub flat_is : flat ≡ begun ++ map (place_in keys) cells
  pub has : All (λ cell. is_among_codes keys cell ≡ true) cells
  pub own : AreOwnPlaces keys

-- the cells of a spot, if it is marked
abbrev pub marked_cells : List Dimension → List First → List Bool → ℕ → List ℕ
marked_cells dims firsts marks spot = if slice_index_or marks spot false then cells_of dims (slice_index_or (regions_of firsts) spot []) else []

-- a spot with the places of its cells
abbrev pub part_at : List Dimension → List First → List Bool → List ℕ → List ℕ → ℕ → Part
part_at dims firsts marks members keys spot = record { own = map (place_in keys) (marked_cells dims firsts marks spot); members = at members spot }

-- the first so many spots have places for their cells
pub record AreLaidOut (dims : List Dimension) (firsts : List First) (marks : List Bool) (members : List ℕ) (count : ℕ) (keys flat : List ℕ) (spans : List Span) : Type 0 where
  pub parts_are : parts spans flat ≡ map (part_at dims firsts marks members keys) (range_with_len 0 count)
  pub parted : sum_by (λ span. span.len) spans ≡ length flat
  pub within : All (λ place. place < length keys) flat
  pub few : All (λ span. span.len ≤ MAX_CELLS) spans
  pub has : (spot : ℕ) → spot < count → All (λ cell. is_among_codes keys cell ≡ true) (marked_cells dims firsts marks spot)
  pub own : AreOwnPlaces keys
