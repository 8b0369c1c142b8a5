use Rattle.std.proofs.Common.{length, arith}
use Rattle.std.proofs.lemmas.List.{length-set}
use Rattle.cube_model.specs.Tree.{Dimension, IsTree}
use Rattle.cube_model.specs.Limits.{MAX_DIMS}
use Rattle.region_algebra.proofs.Places.{map_next, all_next}
use Rattle.region_algebra.proofs.steps.node_counts.Goals as goal

pub loop-d-preserved : goal.loop-d-preserved
loop-d-preserved c = record {
  room = grind (arith, length-set c.loop-d.counts c.loop-d.d c.len.result);
  counts_are = map_next (λ (dim : Dimension). length dim) c.args.dims.now c.loop-d.counts c.loop-d.d MAX_DIMS c.index-dims-d.result c.len.result c.loop-d.invariant.room (omega arith) c.loop-d-test.true c.index-dims-d.is c.len.ensures.count c.loop-d.invariant.counts_are;
  are_trees = all_next IsTree c.args.dims.now c.loop-d.d c.index-dims-d.result c.loop-d-test.true c.index-dims-d.is c.len.ensures.tree c.loop-d.invariant.are_trees;
}
