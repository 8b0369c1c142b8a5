use Rattle.std.proofs.Common.{◌≡◌, ◌≤◌, length, drop, take}
use Rattle.cube_model.specs.Limits.{MAX_DIMS}
use Rattle.region_algebra.specs.Wheels.{AreWheels}
use Rattle.region_algebra.proofs.cells.wheels.Given as goal

abbrev pub invariant-loop-d : goal.invariant-loop-d
invariant-loop-d l = record {
  within : l.d ≤ length l.dims;
  room : length l.wheels ≡ MAX_DIMS;
  wheels : AreWheels (drop l.d l.dims) (drop l.d l.r) (drop l.d (take (length l.dims) l.wheels));
}
