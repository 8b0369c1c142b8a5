-- A cell more has its place.
use Rattle.iter_alloc.proofs.layout.add_cells.Goals as goal
use Rattle.cube_model.specs.Cells.{cells_of}
use Rattle.iter_alloc.proofs.Numbering.{numbering-next}

pub loop-cell-preserved : goal.loop-cell-preserved
loop-cell-preserved c =
    let said = c.in_ok-place.ensures in
    numbering-next c.args.cells.now.keys c.args.flat.now.items (cells_of c.args.space.now c.args.r) c.loop-cell.yielded c.loop-cell.cell-iterator c.loop-cell.cells.keys c.loop-cell.flat.items c.loop-cell.invariant
    c.in-Some.cell c.next.new.self c.in-Some.ensures.steps c.place_of.new.cells.keys c.in_ok-place.place c.push.new.self.items said.keys said.place c.in_ok-push.ensures.items
