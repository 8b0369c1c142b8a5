use Rattle.std.proofs.Common.{◌≡◌, drop}
use Rattle.region_algebra.specs.Space.{is_region}
use Rattle.region_algebra.proofs.regions.is_region.Given as goal

abbrev pub invariant-loop-d : goal.invariant-loop-d
invariant-loop-d l = is_region l.dims l.nodes ≡ is_region (drop l.d l.dims) (drop l.d l.nodes)
