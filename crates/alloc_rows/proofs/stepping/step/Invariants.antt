-- The changes so far are made.
use Rattle.cube_model.specs.Cells.{cells_of}
use Rattle.cell_weight.specs.Stats.{stat_at}
use Rattle.alloc_rows.proofs.Passing.{Passing}
use Rattle.alloc_rows.proofs.stepping.step.Given as goal

abbrev pub invariant-loop-cell : goal.invariant-loop-cell
invariant-loop-cell g l = Passing (g.P.WeightPolicy.weigh l.policy) (stat_at l.stats) (cells_of l.space l.fn.r) l.changed l.cell-index l.total l.rows.items l.rest
