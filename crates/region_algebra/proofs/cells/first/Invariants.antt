use Rattle.std.proofs.Common.{◌≡◌, ◌≤◌, length, drop, Some}
use Rattle.std.specs.Prelude.{slice_get}
use Rattle.cube_model.specs.Cells.{cells_of}
use Rattle.region_algebra.proofs.cells.first.Given as goal

abbrev pub invariant-loop-d : goal.invariant-loop-d
invariant-loop-d l = record {
  within : l.d ≤ length l.dims;
  first : slice_get (cells_of (drop l.d l.dims) (drop l.d l.r)) 0 ≡ Some l.code;
}
