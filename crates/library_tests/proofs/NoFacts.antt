-- Where no fact lies, few lie in any region.
use Rattle.std.proofs.Common.{◌≡◌, ℕ, List, [], ◌∷◌, refl, arith}
use Rattle.std.proofs.lemmas.List.Sums.{sum_by-cons}
use Rattle.std.specs.List.{sum_by}
use Rattle.cube_model.specs.declared.statistic.CellStat.{CellStat}
use Rattle.cube_model.specs.Cells.{cells_of}
use Rattle.cube_model.specs.Tree.{Dimension}
use Rattle.staged_map.specs.Staged.{Places}
use Rattle.alloc_rows.specs.Alloc.{AreFewAt}

sum_by-none : (cells : List ℕ) → sum_by (λ cell. 0) cells ≡ 0
sum_by-none [] = refl
sum_by-none (cell ∷ cells) = omega (arith, sum_by-cons (λ (c : ℕ). 0) cell cells, sum_by-none cells)

pub AreFewAt-none : (dims : List Dimension) (stats : Places CellStat) (region : List ℕ) → stats ≡ [] → AreFewAt dims stats region
AreFewAt-none dims stats region none = rw none (omega (arith, sum_by-none (cells_of dims region)))
