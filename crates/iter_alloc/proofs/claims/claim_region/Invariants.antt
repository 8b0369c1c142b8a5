-- The cells so far are claimed.
use Rattle.iter_alloc.proofs.claims.claim_region.Given as goal
use Rattle.cube_model.specs.Cells.{cells_of}
use Rattle.iter_alloc.proofs.ClaimSteps.{ClaimingCells}

abbrev pub invariant-loop-cell : goal.invariant-loop-cell
invariant-loop-cell l = ClaimingCells l.spot (cells_of l.space l.fn.r) l.initial.owners.entries l.initial.parents l.yielded l.cell-iterator l.owners.entries l.parents
