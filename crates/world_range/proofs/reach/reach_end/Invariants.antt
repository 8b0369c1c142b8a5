use Rattle.cube_model.specs.Cells.{cells_of}
use Rattle.world_range.proofs.Reaching.{Reaching}
use Rattle.world_range.proofs.reach.reach_end.Given as goal

-- the facts so far are picked and added
abbrev pub invariant-loop-item : goal.invariant-loop-item
invariant-loop-item l = Reaching l.extreme (cells_of l.space l.fn.r) l.column l.placed l.item-index l.sum l.picked
