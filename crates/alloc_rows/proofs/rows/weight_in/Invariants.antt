-- The sum is over the rows before this one.
use Rattle.std.proofs.Common.{◌≡◌, take}
use Rattle.alloc_rows.proofs.WithinSum.{sum_inside}
use Rattle.alloc_rows.proofs.rows.weight_in.Given as goal

abbrev pub invariant-loop-cell : goal.invariant-loop-cell
invariant-loop-cell l = l.sum ≡ sum_inside l.fn.region (take l.cell-index l.cell-items)
