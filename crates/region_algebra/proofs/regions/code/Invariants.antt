use Rattle.std.proofs.Common.{◌≤◌, length}
use Rattle.region_algebra.proofs.Tuples.{HasCode}
use Rattle.region_algebra.proofs.regions.code.Given as goal

abbrev pub invariant-loop-d : goal.invariant-loop-d
invariant-loop-d l = record {
  within : l.d ≤ length l.dims;
  code_is : HasCode l.dims l.r l.d l.code;
}
