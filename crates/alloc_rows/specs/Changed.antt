-- The statistics of cells after changes of some.
use Rattle.std.specs.Prelude.{◌≡◌, ℕ, ◌≤◌, true, List, All, length, map, filter, unwrap_or}
use Rattle.cube_model.specs.Ascending.{ascends_from}
use Rattle.cube_model.specs.Cells.{is_among}
use Rattle.cube_model.specs.declared.statistic.CellStat.{CellStat}
use Rattle.cell_weight.specs.Stats.{IsStat, change_of}

-- a changed cell, with its statistics before and after
abbrev pub Change : Type 0
Change = ℕ × CellStat × CellStat

-- the changed cells with their new statistics
abbrev pub new_stats : List Change → List (ℕ × CellStat)
new_stats changes = map (λ change. (change.0, change.2)) changes

-- the statistics of a cell after changes: the new ones where it is changed, else those before
abbrev pub stat_after : (ℕ → CellStat) → List Change → ℕ → CellStat
stat_after stats changes cell = unwrap_or (change_of (new_stats changes) cell) (stats cell)

-- the changes of these cells
abbrev pub changes_among : List ℕ → List Change → List Change
changes_among cells changes = filter (λ change. is_among cells change.0) changes

-- At most two of these cells change, ascending: from the statistics that they have, to such as facts can have.
pub record AreChangesAt (cells : List ℕ) (stats : ℕ → CellStat) (changes : List Change) : Type 0 where
  pub few : length changes ≤ 2
  pub ascending : ascends_from (λ change. change.0) 0 changes ≡ true
  pub inside : All (λ change. is_among cells change.0 ≡ true) changes
  pub from : All (λ change. change.1 ≡ stats change.0) changes
  pub possible : All (λ change. IsStat change.2) changes
