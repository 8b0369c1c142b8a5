use Rattle.std.proofs.Common.{◌≡◌, length, map, take}
use Rattle.std.specs.Prelude.{All}
use Rattle.cube_model.specs.Tree.{Dimension, IsTree}
use Rattle.cube_model.specs.Limits.{MAX_DIMS}
use Rattle.region_algebra.proofs.steps.node_counts.Given as goal

abbrev pub invariant-loop-d : goal.invariant-loop-d
invariant-loop-d l = record {
  room : length l.counts ≡ MAX_DIMS;
  counts_are : take l.d l.counts ≡ map (λ (dim : Dimension). length dim) (take l.d l.dims);
  are_trees : All IsTree (take l.d l.dims);
}
