-- The even rows of a region's cells are an allocation.
use Rattle.std.proofs.Common.{◌∙◌, ap, arith, map}
use Rattle.alloc_rows.proofs.Ascending.{IsAllocation-even}
use Rattle.alloc_rows.proofs.Weighed.{walked}
use Rattle.alloc_rows.proofs.spread.spread_evenly.Goals as goal

pub of_rows-requires : goal.of_rows-requires
of_rows-requires c =
    let all = walked _ _ _ c.loop-cell.invariant.0 c.in-None.ensures.steps.0 in
    let count = c.cell_count-count.ensures in
    IsAllocation-even _ _ _ _ count.count (c.loop-cell.invariant.1 ∙ ap (map (λ cell. (cell, 1))) all) count.some (omega arith)
