use Rattle.std.proofs.Common.{[], ap, get_or, length, refl, arith}
use Rattle.dim_tree.proofs.Leaves.{length-leaf_counts_from}
use Rattle.dim_tree.proofs.Nodes.{ends_from-within}
use Rattle.dim_tree.proofs.Parents.{length-parents_from}
use Rattle.dim_tree.proofs.Passes.{length-ends_from}
use Rattle.dim_tree.proofs.Placing.{nodes_more, parents_from-within}
use Rattle.dim_tree.proofs.node.nodes_of.Goals as goal

pub bounds-ends-place : goal.bounds-ends-place
bounds-ends-place c = omega (arith, ap length c.requires.ends, length-ends_from 0 c.args.depths.now, c.loop-place-test.true)

pub bounds-parents-place : goal.bounds-parents-place
bounds-parents-place c = omega (arith, ap length c.requires.parents, length-parents_from [] c.args.depths.now, c.loop-place-test.true)

pub bounds-numbers-parents : goal.bounds-numbers-parents
bounds-numbers-parents c =
    omega (arith, ap (λ ps. get_or ps c.loop-place.place 0) c.requires.parents, parents_from-within c.args.depths.now c.loop-place.place c.loop-place-test.true, c.requires.same_length)

pub bounds-leaves_before-place : goal.bounds-leaves_before-place
bounds-leaves_before-place c = omega (arith, ap length c.requires.leaves, length-leaf_counts_from 0 c.args.depths.now, c.loop-place-test.true)

pub bounds-leaves_before-end : goal.bounds-leaves_before-end
bounds-leaves_before-end c =
    omega (arith, ap length c.requires.leaves, length-leaf_counts_from 0 c.args.depths.now, ap (λ es. get_or es c.loop-place.place 0) c.requires.ends, ends_from-within 0 c.args.depths.now c.loop-place.place c.loop-place-test.true)

pub loop-place-preserved : goal.loop-place-preserved
loop-place-preserved c =
    rw c.in_ok-push.ensures.items (nodes_more c.args.depths.now c.args.numbers.now c.loop-place.place c.loop-place.nodes.items _ c.loop-place.invariant (rw (c.requires.parents, c.requires.ends, c.requires.leaves) refl))
