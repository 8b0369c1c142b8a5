-- The row of one cell is an allocation.
use Rattle.alloc_rows.proofs.Ascending.{IsAllocation-cell}
use Rattle.alloc_rows.proofs.rows.Alloc.of_cell.Goals as goal

pub invariant_of-result : goal.invariant_of-result
invariant_of-result c = rw c.one.ensures (IsAllocation-cell c.args.cell)
