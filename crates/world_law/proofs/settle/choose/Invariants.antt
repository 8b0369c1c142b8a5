use Rattle.std.proofs.Common.{◌≡◌, map, take}
use Rattle.cube_model.specs.Cells.{cells_of}
use Rattle.world_law.specs.Choices.{own}
use Rattle.world_law.specs.Placed.{placed_fact}
use Rattle.world_law.proofs.settle.choose.Given as goal

-- the rows so far are those of the choice
abbrev pub invariant-loop-cell : goal.invariant-loop-cell
invariant-loop-cell l = l.choice ≡ map (λ row. (row.1, own (cells_of l.space l.r) l.column (placed_fact l.item) row.0)) (take l.cell-index l.cell-items)
