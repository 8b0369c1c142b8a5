use Rattle.std.proofs.Common.{◌≡◌, length}
use Rattle.cube_model.specs.Limits.{MAX_DIMS}
use Rattle.region_algebra.proofs.InsideDigits.{IsTold}
use Rattle.region_algebra.proofs.cells.digits.Given as goal

abbrev pub invariant-loop-d : goal.invariant-loop-d
invariant-loop-d l = record {
  room : length l.digits ≡ MAX_DIMS;
  told : IsTold l.dims l.r l.d l.digits l.count;
}
