-- The cells so far have weight 1 each.
use Rattle.std.proofs.Common.{◌≡◌, ◌++◌, map}
use Rattle.cube_model.specs.Cells.{cells_of}
use Rattle.alloc_rows.proofs.spread.spread_evenly.Given as goal

abbrev pub invariant-loop-cell : goal.invariant-loop-cell
invariant-loop-cell l = (l.yielded ++ l.cell-iterator ≡ cells_of l.space l.fn.r) × (l.rows.items ≡ map (λ cell. (cell, 1)) l.yielded)
