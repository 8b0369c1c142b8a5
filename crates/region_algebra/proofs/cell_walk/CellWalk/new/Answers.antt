use Rattle.std.proofs.Common.{arith}
use Rattle.region_algebra.proofs.Spaces.{accepted-limits}
use Rattle.region_algebra.proofs.Wheels.{walk_start}
use Rattle.region_algebra.proofs.cell_walk.CellWalk.new.Goals as goal

pub invariant_of-result : goal.invariant_of-result
invariant_of-result c =
    let limits = accepted-limits c.args.space.now c.dims.ensures.accepted in
    walk_start c.args.space.now c.args.region c.wheels.result c.dims.result c.first_cell.result c.dims.ensures.count (omega (arith, limits.few, c.dims.ensures.count)) limits.cells c.wheels.ensures c.first_cell.ensures
