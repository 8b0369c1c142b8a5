-- A place more is left free.
use Rattle.iter_alloc.proofs.layout.leave_free.Goals as goal
use Rattle.iter_alloc.proofs.Numbering.{free-next, free-start}

pub loop-done-init : goal.loop-done-init
loop-done-init c = free-start c.args.cells.now.keys c.requires

pub loop-done-preserved : goal.loop-done-preserved
loop-done-preserved c = free-next c.args.cells.now.keys c.loop-done.cells.keys _ c.loop-done.invariant _ c.in_ok-insert.ensures.keys
