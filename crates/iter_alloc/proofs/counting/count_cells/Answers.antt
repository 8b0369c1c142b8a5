-- A fact more is counted.
use Rattle.iter_alloc.proofs.counting.count_cells.Goals as goal
use Rattle.iter_alloc.proofs.Counted.{counting-fits, counting-next, counting-start}
use Rattle.std.proofs.Common.{arith, ◌∙◌}

pub loop-fact-init : goal.loop-fact-init
loop-fact-init c = counting-start c.args.space.now c.args.facts.now.facts _ c.requires (c.into_iter-fact-iterator.ensures.into_iter_gives ∙ c.iter-fact-items.ensures)

pub overflow_add-cells : goal.overflow_add-cells
overflow_add-cells c = omega (arith, counting-fits _ _ _ _ _ _ c.in-Some.ensures.steps c.loop-fact.invariant, c.cells_of_several-cells.ensures)

pub loop-fact-preserved : goal.loop-fact-preserved
loop-fact-preserved c = rw c.cells_of_several-cells.ensures (counting-next _ _ _ _ _ _ c.in-Some.ensures.steps c.loop-fact.invariant)
