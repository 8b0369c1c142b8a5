use Rattle.std.proofs.Common.{◌≡◌, length, take}
use Rattle.std.specs.Prelude.{slice_set}
use Rattle.cube_model.specs.Limits.{MAX_DIMS}
use Rattle.region_algebra.proofs.regions.child.Given as goal

abbrev pub invariant-loop-i : goal.invariant-loop-i
invariant-loop-i l = record {
  room : length l.nodes ≡ MAX_DIMS;
  done : take l.i l.nodes ≡ take l.i (slice_set l.r l.d l.node);
}
