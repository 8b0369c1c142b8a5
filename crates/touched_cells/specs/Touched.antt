-- Which cells an edit touches, with their statistics before and after it.
use Rattle.std.specs.Prelude.{ℕ, ◌+◌, ◌-◌, Bool, List, filter, map, not, ◌==◌, if◌then◌else◌, Option, ℤ}
use Rattle.std.specs.Option.{option_and_then, option_map, option_map_or}
use Rattle.cube_model.specs.declared.edit.Edit.{Edit}
use Rattle.cube_model.specs.declared.edit.Fact.{Fact}
use Rattle.cube_model.specs.declared.statistic.CellStat.{CellStat}
use Rattle.cube_model.specs.Allocation.{Policy, stat_of}
use Rattle.cube_model.specs.Cells.{cells_of}
use Rattle.cube_model.specs.Facts.{after}
use Rattle.cube_model.specs.Tree.{Dimension}
use Rattle.region_algebra.specs.Space.{only_cell}
use Rattle.alloc_rows.specs.Changed.{Change}
use Rattle.fact_groups.specs.Changes.{cells_in_order, touched_cells}

-- the cell of a fact, if there is one and its region is one cell, with what the fact adds there
abbrev pub Lying : Type 0
Lying = Option (ℕ × ℕ)

abbrev pub lying_of : List Dimension → (List ℤ → ℕ) → Option Fact → Lying
lying_of dims adds fact = option_and_then (λ f. option_map (λ cell. (cell, adds f.cols)) (only_cell (cells_of dims f.region))) fact

-- how many facts that brings to a cell, and how much
abbrev pub number_at : Lying → ℕ → ℕ
number_at lying cell = option_map_or (λ l. if l.0 == cell then 1 else 0) lying 0

abbrev pub added_at : Lying → ℕ → ℕ
added_at lying cell = option_map_or (λ l. if l.0 == cell then l.1 else 0) lying 0

-- the statistics of a cell with the one and without the other
abbrev pub stat_moved : Lying → Lying → ℕ → CellStat → CellStat
stat_moved taken given cell stat = record {
  count = stat.count + number_at given cell - number_at taken cell;
  sum = stat.sum + added_at given cell - added_at taken cell;
}

-- the change of a cell
abbrev pub change_at : (ℕ → CellStat) → Lying → Lying → ℕ → Change
change_at stats taken given cell = (cell, stats cell, stat_moved taken given cell (stats cell))

-- the changes of the cells of both
abbrev pub changes_of : (ℕ → CellStat) → Lying → Lying → List Change
changes_of stats taken given = map (change_at stats taken given) (cells_in_order (option_map (λ l. l.0) taken) (option_map (λ l. l.0) given))

-- the cells that an edit touches, each with its statistics before and after it
abbrev pub touched : Policy → List Dimension → Edit → List Fact → List Change
touched policy dims edit facts = map (λ cell. (cell, stat_of policy dims facts cell, stat_of policy dims (after edit facts) cell)) (touched_cells dims edit facts)

-- a change makes a cell weigh otherwise
abbrev pub reweighs : (CellStat → ℕ) → Change → Bool
reweighs weigh change = not (weigh change.1 == weigh change.2)

-- those of the changes that do
abbrev pub reweighing : (CellStat → ℕ) → List Change → List Change
reweighing weigh changes = filter (reweighs weigh) changes
