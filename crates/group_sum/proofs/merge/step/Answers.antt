use Rattle.std.proofs.Common.{inl, inr, ap, sym, ◌∙◌, arith}
use Rattle.group_sum.specs.Terms.{TermList}
use Rattle.group_sum.specs.Back.{AreLevel}
use Rattle.group_sum.proofs.Steps.{adds_up_in_place, last_den_is}
use Rattle.group_sum.proofs.merge.step.Goals as goal

-- both have the denominator
pub returns-in-Some-2-clause-steps : goal.returns-in-Some-2-clause-steps
returns-in-Some-2-clause-steps c =
    let last = last_den_is c.args.ahead.own _ c.in-Some.own (sym c.last_den.ensures ∙ c.in-Some.is) in
    let level : AreLevel c.args.rows.now.terms c.args.other.now.terms c.args.ahead = record { some = last.some; same = last.same ∙ c.if-own-den-2.true ∙ c.den-den.ensures } in
    let mid = ap (λ (list : TermList). list.terms) c.copy-in-Some-2.ensures in
    let new = ap (λ (list : TermList). list.terms) c.add_row.ensures.only in
    inr (inl (adds_up_in_place _ _ _ _ c.args.ahead _ level (omega arith) mid new c.row.ensures.row c.add_row.ensures.total))
