use Rattle.std.proofs.Common.{◌≡◌, ◌≤◌, length, drop}
use Rattle.cube_model.specs.Cells.{cells_of}
use Rattle.region_algebra.proofs.cells.count.Given as goal

abbrev pub invariant-loop-d : goal.invariant-loop-d
invariant-loop-d l = record {
  within : l.d ≤ length l.dims;
  count_is : l.count ≡ length (cells_of (drop l.d l.dims) (drop l.d l.r));
  some : 1 ≤ l.count;
}
