use Rattle.std.proofs.Common.{◌≤◌, length, ◌∙◌, arith}
use Rattle.exact_fraction.proofs.Sizes.{column_can_divide}
use Rattle.exact_fraction.proofs.Quoted.{one_is, ratio_none, ratio_exact, wide_told, ratio_tells}
use Rattle.exact_fraction.proofs.quotients.ratio.Goals as goal

-- no term
pub returns-then-len-eq0-clause-value : goal.returns-then-len-eq0-clause-value
returns-then-len-eq0-clause-value c = ratio_none c.args.col c.args.scale c.args.t.now.terms (omega (arith, c.len.ensures.count))

-- one fraction
pub returns-in-Some-clause-value : goal.returns-in-Some-clause-value
returns-in-Some-clause-value c =
    let some : 1 ≤ length c.args.t.now.terms = omega (arith, c.len.ensures.count) in
    c.exact_quotient.ensures ∙ ratio_exact c.args.col c.args.scale c.args.t.now.terms _ some c.in-Some.ensures

pub returns-in-Some-clause-law : goal.returns-in-Some-clause-law
returns-in-Some-clause-law c =
    let some : 1 ≤ length c.args.t.now.terms = omega (arith, c.len.ensures.count) in
    rw (c.exact_quotient.ensures ∙ ratio_exact c.args.col c.args.scale c.args.t.now.terms _ some c.in-Some.ensures) (ratio_tells _ c.args.col c.args.scale c.len.ensures.terms c.requires.moderate c.requires.column some c.requires.scale.0 c.requires.scale.1)

-- bounds
pub wide_quotient-requires-clause-divide : goal.wide_quotient-requires-clause-divide
wide_quotient-requires-clause-divide c =
    let some : 1 ≤ length c.args.t.now.terms = omega (arith, c.len.ensures.count) in
    rw (c.value_over.ensures.value ∙ one_is c.args.col c.args.t.now.terms, c.value_over-in-None.ensures.value ∙ one_is 0 c.args.t.now.terms) (column_can_divide _ c.args.col c.args.scale c.len.ensures.terms c.requires.moderate c.requires.column some c.requires.scale.1)

pub returns-in-None-clause-value : goal.returns-in-None-clause-value
returns-in-None-clause-value c =
    let some : 1 ≤ length c.args.t.now.terms = omega (arith, c.len.ensures.count) in
    c.wide_quotient.ensures ∙ wide_told c.args.col c.args.scale c.args.t.now.terms _ _ c.value_over.ensures.value c.value_over-in-None.ensures.value some c.in-None.ensures

pub returns-in-None-clause-law : goal.returns-in-None-clause-law
returns-in-None-clause-law c =
    let some : 1 ≤ length c.args.t.now.terms = omega (arith, c.len.ensures.count) in
    rw (c.wide_quotient.ensures ∙ wide_told c.args.col c.args.scale c.args.t.now.terms _ _ c.value_over.ensures.value c.value_over-in-None.ensures.value some c.in-None.ensures) (ratio_tells _ c.args.col c.args.scale c.len.ensures.terms c.requires.moderate c.requires.column some c.requires.scale.0 c.requires.scale.1)
