-- The cells so far are weighed.
use Rattle.cube_model.specs.Cells.{cells_of}
use Rattle.cell_weight.specs.Stats.{stat_at}
use Rattle.alloc_rows.proofs.Weighed.{Weighed}
use Rattle.alloc_rows.proofs.spread.weigh_cells.Given as goal

abbrev pub invariant-loop-cell : goal.invariant-loop-cell
invariant-loop-cell g l =
    Weighed (λ cell. g.P.WeightPolicy.weigh l.policy (stat_at l.stats cell)) (λ cell. (stat_at l.stats cell).count)
    (cells_of l.space l.fn.r) l.yielded l.cell-iterator l.total l.rows.items
