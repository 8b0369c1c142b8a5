-- A place more has the rows of its group, and all places have the rows of the facts.
use Rattle.std.proofs.Common.{◌∙◌, arith}
use Rattle.fact_indexes.proofs.HeldRows.{rows-end, rows-fit}
use Rattle.fact_indexes.proofs.grouping.rows_of.Goals as goal

pub rows_in-rows-requires : goal.rows_in-rows-requires
rows_in-rows-requires g c =
    let fit = rows-fit _ _ _ _ _ c.dims.ensures.trees c.requires.valid c.requires.groups c.count.ensures.distinct c.count.ensures.once c.loop-i.i _ _ c.in-Some.ensures.next in
    omega (arith, fit)

pub overflow_add-rows : goal.overflow_add-rows
overflow_add-rows g c =
    let fit = rows-fit _ _ _ _ _ c.dims.ensures.trees c.requires.valid c.requires.groups c.count.ensures.distinct c.count.ensures.once c.loop-i.i _ _ c.in-Some.ensures.next in
    omega (arith, fit, c.rows_in-rows.ensures, c.loop-i.invariant)

pub returns : goal.returns
returns g c =
    c.loop-i.invariant ∙ rows-end _ _ _ _ _ c.dims.ensures.trees c.requires.valid c.requires.groups c.count.ensures.distinct c.count.ensures.once c.loop-i.i (omega (arith, c.loop-i-test.false, c.count-i-end.ensures.count))
