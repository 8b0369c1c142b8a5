-- The spot's cells have places, and those behind them are left free.
use Rattle.iter_alloc.proofs.layout.add_spot.Goals as goal
use Rattle.cube_model.specs.Cells.{cells_of}
use Rattle.iter_alloc.proofs.Numbering.{free-behind}
use Rattle.iter_alloc.specs.LaidOut.{AreNumbered}
use Rattle.std.proofs.Common.{◌≡◌, Bool, true, [], sym, subst}
use Rattle.std.specs.Prelude.{if◌then◌else◌}

pub returns-clause-numbered : goal.returns-clause-numbered
returns-clause-numbered c =
    let marked : c.args.is_marked ≡ true = c.if-not-is_marked.false in
    subst (λ (b : Bool). AreNumbered c.args.cells.now.keys c.leave_free.new.cells.keys c.args.flat.now.items c.add_cells.new.flat.items (if b then cells_of c.args.space.now c.args.r else [])) (sym marked)
    (free-behind c.args.cells.now.keys c.add_cells.new.cells.keys c.leave_free.new.cells.keys c.args.flat.now.items c.add_cells.new.flat.items (cells_of c.args.space.now c.args.r) c.in_ok-add_cells.ensures c.in_ok-leave_free.ensures)
