-- Statistics of few facts, as those of tests are.
use Rattle.std.specs.Prelude.{ℕ, ◌≤◌}
use Rattle.cube_model.specs.declared.statistic.CellStat.{CellStat}
use Rattle.staged_map.specs.Staged.{Places}
use Rattle.cell_weight.specs.Stats.{stat_at}

-- no more than eight lie at any cell
abbrev pub AreFewEach : Places CellStat → Type 0
AreFewEach stats = (cell : ℕ) → (stat_at stats cell).count ≤ 8
