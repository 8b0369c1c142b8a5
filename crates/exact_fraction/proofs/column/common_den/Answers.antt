use Rattle.std.proofs.Common.{sym, ◌∙◌, arith}
use Rattle.exact_fraction.proofs.Passes.{rest_some, rest_none, has_first, has_next, has_none, has_all}
use Rattle.exact_fraction.proofs.column.common_den.Goals as goal

-- no denominator yet
pub loop-i-init : goal.loop-i-init
loop-i-init c = has_first _ (rest_some _ _ 0 c.len-i-end.ensures.terms)

-- a multiple that passes the limit
pub returns-in_err-common-clause-common : goal.returns-in_err-common-clause-common
returns-in_err-common-clause-common c =
    let has = rw c.part.ensures.next at c.loop-i.invariant in
    c.from_residual.ensures ∙ sym (has_none _ _ _ _ has c.part.ensures.some (rest_some _ _ _ c.len-i-end.ensures.terms) c.in_err-common.ensures)

-- one more denominator
pub loop-i-preserved : goal.loop-i-preserved
loop-i-preserved c =
    let has = rw c.part.ensures.next at c.loop-i.invariant in
    has_next _ _ _ _ has c.part.ensures.some (rest_some _ _ _ c.len-i-end.ensures.terms) _ c.in_ok-common.ensures

-- and no more
pub returns-clause-common : goal.returns-clause-common
returns-clause-common c = sym (has_all _ _ _ c.loop-i.invariant (rest_none c.args.col c.loop-i.i c.args.t.now.terms (omega (arith, c.len-i-end.ensures.count))))
