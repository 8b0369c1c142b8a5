use Rattle.std.proofs.Common.{arith}
use Rattle.exact_fraction.proofs.Passes.{bounds_next}
use Rattle.exact_fraction.proofs.column.wide_bounds.Goals as goal

-- the sums with the bounds of one more fraction
pub plus_bounds-all-requires-clause-lo : goal.plus_bounds-all-requires-clause-lo
plus_bounds-all-requires-clause-lo c =
    let has = rw c.part.ensures.next at c.loop-i.invariant in
    let next = bounds_next _ _ _ _ _ has c.part.ensures.some c.part.ensures.size c.bounds_of.result c.bounds_of.ensures.lo c.bounds_of.ensures.hi in
    omega (arith, next.small_lo, c.len-i-end.ensures.count, c.requires.moderate.few)

pub plus_bounds-all-requires-clause-hi : goal.plus_bounds-all-requires-clause-hi
plus_bounds-all-requires-clause-hi c =
    let has = rw c.part.ensures.next at c.loop-i.invariant in
    let next = bounds_next _ _ _ _ _ has c.part.ensures.some c.part.ensures.size c.bounds_of.result c.bounds_of.ensures.lo c.bounds_of.ensures.hi in
    omega (arith, next.small_hi, c.len-i-end.ensures.count, c.requires.moderate.few)

pub loop-i-preserved : goal.loop-i-preserved
loop-i-preserved c =
    let has = rw c.part.ensures.next at c.loop-i.invariant in
    rw c.plus_bounds-all.ensures (bounds_next _ _ _ _ _ has c.part.ensures.some c.part.ensures.size c.bounds_of.result c.bounds_of.ensures.lo c.bounds_of.ensures.hi)
