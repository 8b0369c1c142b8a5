-- Each dimension's node is read from the table, and makes the code with those before it.
use Rattle.std.proofs.Common.{refl, ◌∙◌, arith, rules}
use Rattle.region_index.proofs.PlaceTable.{IsPart-end, IsPart-left, IsPart-next, IsPart-none, part-small}
use Rattle.region_index.proofs.walk.Walk.code_of.Goals as goal

pub returns-then-place : goal.returns-then-place
returns-then-place c =
    IsPart-none _ _ _ _ _ _ c.loop-d.invariant _ c.requires.table _ c.dim.ensures (omega (arith, c.len-size.ensures.count, c.len-size.ensures.most)) c.if-place.true

pub overflow_mul-code : goal.overflow_mul-code
overflow_mul-code c =
    let small = part-small _ _ _ _ _ _ c.loop-d.invariant _ c.requires.table _ c.dim.ensures c.if-place.false c.from.result _ (c.from.ensures ∙ c.len-size.ensures.count) refl in
    search (rules, small.0)

pub overflow_add-code : goal.overflow_add-code
overflow_add-code c =
    let small = part-small _ _ _ _ _ _ c.loop-d.invariant _ c.requires.table _ c.dim.ensures c.if-place.false c.from.result c.from-in-loop-d.result (c.from.ensures ∙ c.len-size.ensures.count) c.from-in-loop-d.ensures in
    search (rules, small.1)

pub loop-d-preserved : goal.loop-d-preserved
loop-d-preserved c =
    IsPart-next _ _ _ _ _ _ c.loop-d.invariant _ c.requires.table _ c.dim.ensures c.if-place.false c.from.result c.from-in-loop-d.result (c.from.ensures ∙ c.len-size.ensures.count) c.from-in-loop-d.ensures

pub returns-then-rest-eq0 : goal.returns-then-rest-eq0
returns-then-rest-eq0 c = IsPart-end _ _ _ _ _ _ c.loop-d.invariant (omega (arith, c.loop-d-test.false, c.loop-d.auto.d-end, c.dims-d-end.ensures.count)) c.if-rest-eq0.true

pub returns-else-rest-eq0 : goal.returns-else-rest-eq0
returns-else-rest-eq0 c = IsPart-left _ _ _ _ _ _ c.loop-d.invariant (omega (arith, c.loop-d-test.false, c.loop-d.auto.d-end, c.dims-d-end.ensures.count)) c.if-rest-eq0.false
