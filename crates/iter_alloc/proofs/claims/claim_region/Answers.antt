-- A cell more is claimed.
use Rattle.iter_alloc.proofs.claims.claim_region.Goals as goal
use Rattle.iter_alloc.proofs.ClaimSteps.{cells-next}
use Rattle.cube_model.specs.Cells.{cells_of}

pub loop-cell-preserved : goal.loop-cell-preserved
loop-cell-preserved c =
    let said = c.in_ok-claim.ensures in
    cells-next c.args.spot (cells_of c.args.space.now c.args.r) c.args.owners.now.entries c.args.parents.now c.loop-cell.yielded c.loop-cell.cell-iterator c.loop-cell.owners.entries c.loop-cell.parents c.loop-cell.invariant
    c.in-Some.cell c.next.new.self c.in-Some.ensures.steps c.claim.new.owners.entries c.claim.new.parents said.forest said.as_many said.owners said.claimed
