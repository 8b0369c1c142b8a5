-- Whether the region lies below is told by the dimensions from this one on.
use Rattle.std.proofs.Common.{◌≡◌, drop}
use Rattle.cube_model.specs.Cells.{is_inside}
use Rattle.view_store.proofs.view.is_below.Given as goal

abbrev pub invariant-loop-d : goal.invariant-loop-d
invariant-loop-d l = is_inside l.space l.r l.below ≡ is_inside (drop l.d l.space) (drop l.d l.r) (drop l.d l.below)
