-- How much stands in each cell, round after round: a fact that may lie in several cells is shared among them as they stand.
use Rattle.cube_model.specs.declared.edit.Fact.{Fact}
use Rattle.cube_model.specs.Cells.{cells_of, is_among}
use Rattle.cube_model.specs.Facts.{is_precise, lies_at}
use Rattle.cube_model.specs.Tree.{Dimension}
use Rattle.std.specs.List.{sum_by, count_by}
use Rattle.std.specs.Prelude.{filter, not, ◌&&◌, ◌==◌, if◌then◌else◌, ℕ, zero, suc, ◌+◌, ◌*◌, ◌/◌, Bool, List, length}

-- what a whole fact counts
abbrev pub WHOLE_FACT : ℕ
WHOLE_FACT = 1048576

-- what stands in a cell before any round: its precise facts
abbrev pub start : List Dimension → List Fact → ℕ → ℕ
start dims facts cell = WHOLE_FACT * count_by (lies_at dims cell) facts

-- an imprecise fact that may lie in the cell
abbrev pub has_cell : List Dimension → ℕ → Fact → Bool
has_cell dims cell fact = not (is_precise dims fact) && is_among (cells_of dims fact.region) cell

-- The share of a whole fact that falls to one of so many cells, by how much stands in the cell and in all of them. Where nothing
-- stands in any, the shares are even. A share is rounded down.
abbrev pub share_of : ℕ → ℕ → ℕ → ℕ
share_of level mass count = if mass == 0 then WHOLE_FACT / count else WHOLE_FACT * level / mass

-- the share of one of these cells, where the cells stand so
abbrev pub share_by : (ℕ → ℕ) → List ℕ → ℕ → ℕ
share_by level cells cell = share_of (level cell) (sum_by level cells) (length cells)

-- what some facts give a cell, where the cells stand so
abbrev pub given_to_cell : List Dimension → List Fact → (ℕ → ℕ) → ℕ → ℕ
given_to_cell dims givers level cell = sum_by (λ fact. share_by level (cells_of dims fact.region) cell) (filter (has_cell dims cell) givers)

-- how much stands in a cell after so many rounds, where it begins with the precise ones of some facts, and others give
unfoldable pub level_from : List Dimension → List Fact → List Fact → ℕ → ℕ → ℕ
level_from dims facts givers zero cell = start dims facts cell
level_from dims facts givers (suc n) cell = start dims facts cell + given_to_cell dims givers (level_from dims facts givers n) cell

-- how much stands in a cell after so many rounds
abbrev pub level_at : List Dimension → List Fact → ℕ → ℕ → ℕ
level_at dims facts n cell = level_from dims facts facts n cell
