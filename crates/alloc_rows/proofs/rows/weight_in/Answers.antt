-- The sum so far is within the denominator, which is the sum over all rows.
use Rattle.std.proofs.Common.{arith}
use Rattle.alloc_rows.proofs.WithinSum.{inside-next-le, inside-so_far-le}
use Rattle.alloc_rows.proofs.rows.weight_in.Goals as goal

pub overflow_add-sum : goal.overflow_add-sum
overflow_add-sum c =
    let kept = c.rows-cell-items.ensures.kept in
    omega (arith, kept.limit, inside-next-le c.args.region.now _ _ _ _ c.rows-cell-items.ensures.rows kept c.loop-cell.invariant (0, 0) c.loop-cell-test.true)

pub returns-clause-most : goal.returns-clause-most
returns-clause-most c = inside-so_far-le c.args.region.now _ _ _ _ c.rows-cell-items.ensures.rows c.rows-cell-items.ensures.kept c.loop-cell.invariant
