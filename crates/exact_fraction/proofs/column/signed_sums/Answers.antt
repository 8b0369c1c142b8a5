use Rattle.std.proofs.Common.{refl, arith}
use Rattle.exact_fraction.proofs.Passes.{rest_none, sums_all, sums_next, sums_wide, within_none, within_some}
use Rattle.exact_fraction.proofs.column.signed_sums.Goals as goal

-- a share that passes the limit
pub returns-in_err-share : goal.returns-in_err-share
returns-in_err-share c =
    let has = rw c.part-part.ensures.next at c.loop-i.invariant in
    let wide = within_none _ (rw c.quotient.ensures at c.in_err-share.ensures) in
    rw c.from_residual.ensures (sums_wide _ _ _ _ _ has _ refl (omega (arith, wide)))

-- sums that do
pub returns-in_err-sums : goal.returns-in_err-sums
returns-in_err-sums c =
    let has = rw c.part-part.ensures.next at c.loop-i.invariant in
    let share = within_some _ _ (rw c.quotient.ensures at c.in_ok-share.ensures) in
    rw c.from_residual-in_err-sums.ensures (sums_wide _ _ _ _ _ has _ share.0 c.in_err-sums.ensures)

-- one more fraction
pub loop-i-preserved : goal.loop-i-preserved
loop-i-preserved c =
    let has = rw c.part-part.ensures.next at c.loop-i.invariant in
    let share = within_some _ _ (rw c.quotient.ensures at c.in_ok-share.ensures) in
    sums_next _ _ _ _ _ has _ share.0 _ c.in_ok-sums.ensures

-- and no more
pub returns : goal.returns
returns c = sums_all _ _ _ _ c.loop-i.invariant (rest_none c.args.col c.loop-i.i c.args.t.now.terms (omega (arith, c.len-i-end.ensures.count)))
