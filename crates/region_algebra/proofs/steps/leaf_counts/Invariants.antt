use Rattle.std.proofs.Common.{◌≡◌, length, map, take}
use Rattle.cube_model.specs.Tree.{Dimension, leaves}
use Rattle.cube_model.specs.Limits.{MAX_DIMS}
use Rattle.region_algebra.proofs.steps.leaf_counts.Given as goal

abbrev pub invariant-loop-d : goal.invariant-loop-d
invariant-loop-d l = record {
  room : length l.counts ≡ MAX_DIMS;
  counts_are : take l.d l.counts ≡ map (λ (dim : Dimension). length (leaves dim)) (take l.d l.dims);
}
