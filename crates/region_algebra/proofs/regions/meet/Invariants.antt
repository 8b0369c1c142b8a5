use Rattle.std.proofs.Common.{◌≡◌, drop, length, take}
use Rattle.cube_model.specs.Limits.{MAX_DIMS}
use Rattle.region_algebra.specs.Space.{meet_of}
use Rattle.region_algebra.proofs.Tuples.{IsBehind}
use Rattle.region_algebra.proofs.regions.meet.Given as goal

abbrev pub invariant-loop-d : goal.invariant-loop-d
invariant-loop-d l = record {
  room : length l.nodes ≡ MAX_DIMS;
  behind : IsBehind (take l.d l.nodes) (meet_of (drop l.d l.dims) (drop l.d l.a) (drop l.d l.b)) (meet_of l.dims l.a l.b);
}
