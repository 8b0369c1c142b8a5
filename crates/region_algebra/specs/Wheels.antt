-- Cells by the leaves that a walk goes through in each dimension.
use Rattle.std.specs.Prelude.{◌≡◌, ℕ, ◌+◌, ◌-◌, ◌*◌, ◌<◌, ◌≤◌, Bool, List, [], ◌∷◌, ◌++◌, All, map, take, if◌then◌else◌}
use Rattle.std.specs.List.{flat_map, range_with_len}
use Rattle.cube_model.specs.Cells.{cells_of}
use Rattle.cube_model.specs.Limits.{MAX_DIMS, SPACE_LIMIT}
use Rattle.cube_model.specs.Tree.{Dimension}
use Rattle.region_algebra.specs.declared.wheel.Wheel.{Wheel}

-- one of a dimension's leaves before each cell of the dimensions after it
abbrev pub cells_at : Wheel → List ℕ → ℕ → List ℕ
cells_at wheel cells leaf = map (λ c. leaf * wheel.step + c) cells

-- all the cells, the first dimension slowest
abbrev pub cells_over : List Wheel → List ℕ
cells_over [] = 0 ∷ []
cells_over (wheel ∷ wheels) = flat_map (cells_at wheel (cells_over wheels)) (range_with_len wheel.first (wheel.end - wheel.first))

-- those from where the wheels stand on
abbrev pub cells_from : List Wheel → List ℕ
cells_from [] = 0 ∷ []
cells_from (wheel ∷ wheels) =
    cells_at wheel (cells_from wheels) wheel.leaf ++ flat_map (cells_at wheel (cells_over wheels)) (range_with_len (wheel.leaf + 1) (wheel.end - (wheel.leaf + 1)))

-- the cell where they stand
abbrev pub code_at : List Wheel → ℕ
code_at [] = 0
code_at (wheel ∷ wheels) = wheel.leaf * wheel.step + code_at wheels

-- the wheel stands at one of its leaves
pub record IsOnLeaf (wheel : Wheel) : Type 0 where
  pub low : wheel.first ≤ wheel.leaf
  pub high : wheel.leaf < wheel.end

-- wheels that go through a region's cells, and stand at the first of these
pub record AreWheels (dims : List Dimension) (region : List ℕ) (wheels : List Wheel) : Type 0 where
  pub stand : All IsOnLeaf wheels
  pub over : cells_over wheels ≡ cells_of dims region
  pub from : cells_from wheels ≡ cells_of dims region

-- the cells that a walk has before it: those from where its wheels stand on, unless it has given all
abbrev pub cells_ahead : List Wheel → Bool → List ℕ
cells_ahead wheels has_more = if has_more then cells_from wheels else []

-- the wheels were turned on by one cell, or at the last of them back to the first
pub record IsTurned (old new : List Wheel) (cell_old cell_new : ℕ) (has_more : Bool) : Type 0 where
  pub stand : All IsOnLeaf new
  pub over : cells_over new ≡ cells_over old
  pub here : cell_new ≡ code_at new
  pub from : cells_from old ≡ cell_old ∷ cells_ahead new has_more

-- a walk has a wheel for each of its dimensions, and knows the cell where they stand
pub record IsWalk (wheels : List Wheel) (dims cell : ℕ) : Type 0 where
  pub few : dims ≤ MAX_DIMS
  pub stand : All IsOnLeaf (take dims wheels)
  pub here : cell ≡ code_at (take dims wheels)
  pub limit : All (λ c. c < SPACE_LIMIT) (cells_over (take dims wheels))
