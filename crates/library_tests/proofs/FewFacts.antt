-- Where few facts lie at each cell, few lie in a small region.
use Rattle.std.proofs.Common.{ℕ, ◌*◌, ◌≤◌, List, [], ◌∷◌, length, arith}
use Rattle.std.proofs.lemmas.List.Sums.{sum_by-cons}
use Rattle.std.specs.List.{sum_by}
use Rattle.cube_model.specs.declared.statistic.CellStat.{CellStat}
use Rattle.cube_model.specs.Cells.{cells_of}
use Rattle.cube_model.specs.Tree.{Dimension}
use Rattle.staged_map.specs.Staged.{Places}
use Rattle.cell_weight.specs.Stats.{stat_at}
use Rattle.alloc_rows.specs.Alloc.{AreFewAt}
use Rattle.library_tests.specs.Few.{AreFewEach}

sum_by-few : (f : ℕ → ℕ) (cells : List ℕ) → ((cell : ℕ) → f cell ≤ 8) → sum_by f cells ≤ 8 * length cells
sum_by-few f [] few = omega arith
sum_by-few f (cell ∷ cells) few = omega (arith, sum_by-cons f cell cells, few cell, sum_by-few f cells few)

pub AreFewAt-each : (dims : List Dimension) (stats : Places CellStat) (region : List ℕ) → AreFewEach stats → length (cells_of dims region) ≤ 1024 → AreFewAt dims stats region
AreFewAt-each dims stats region few small = omega (arith, sum_by-few (λ cell. (stat_at stats cell).count) (cells_of dims region) few, small)
