-- Tests that tell the cells of a region from others.
use Rattle.std.specs.Prelude.{◌≡◌, ℕ, ◌%◌, ◌<◌, ◌≤◌, Bool, List, All, ◌&&◌, nat_le, nat_lt, take}
use Rattle.std.specs.List.{list_all}
use Rattle.cube_model.specs.Cells.{cells_of, is_among}
use Rattle.cube_model.specs.Limits.{MAX_DIMS}
use Rattle.cube_model.specs.Tree.{Dimension}
use Rattle.region_algebra.specs.Space.{cell_total}
use Rattle.region_algebra.specs.declared.inside.Digit.{Digit}

-- the cell's place among so many cells is in the range
abbrev pub is_held : ℕ → Digit → Bool
is_held cell digit = nat_le digit.low (cell % digit.cells) && nat_lt (cell % digit.cells) digit.high

-- the cells that a test tells from others, which are what contracts see of it
abbrev pub cells_inside : List ℕ → List ℕ
cells_inside cells = cells

-- of these digits so many tell the cells of a region from the other cells
pub record TellsInside (dims : List Dimension) (region : List ℕ) (digits : List Digit) (count : ℕ) : Type 0 where
  pub few : count ≤ MAX_DIMS
  pub some : All (λ digit. 0 < digit.cells) (take count digits)
  pub tells : (cell : ℕ) → cell < cell_total dims → is_among (cells_of dims region) cell ≡ list_all (is_held cell) (take count digits)

pub record IsInside (dims : List Dimension) (region : List ℕ) (digits : List Digit) (count total : ℕ) : Type 0 where
  pub told : TellsInside dims region digits count
  pub whole : total ≡ cell_total dims
