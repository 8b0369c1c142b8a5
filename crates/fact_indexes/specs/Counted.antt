-- The statistics of a cell with a fact more.
use Rattle.std.specs.Prelude.{ℕ, ◌+◌}
use Rattle.cube_model.specs.declared.statistic.CellStat.{CellStat}
use Rattle.touched_cells.specs.Touched.{Lying, added_at, number_at}

-- statistics of a cell with what a fact brings to it
abbrev pub stat_with : Lying → ℕ → CellStat → CellStat
stat_with lying cell stat = record { count = stat.count + number_at lying cell; sum = stat.sum + added_at lying cell }
