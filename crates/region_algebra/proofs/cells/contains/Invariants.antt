use Rattle.std.proofs.Common.{◌≡◌, drop}
use Rattle.cube_model.specs.Cells.{cells_of, is_among}
use Rattle.region_algebra.proofs.cells.contains.Given as goal

abbrev pub invariant-loop-d : goal.invariant-loop-d
invariant-loop-d l = is_among (cells_of l.dims l.r) l.cell ≡ is_among (cells_of (drop l.d l.dims) (drop l.d l.r)) l.rest
