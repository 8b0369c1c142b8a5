-- What the nodes add is added, from the last dimension to the first.
use Rattle.std.proofs.Common.{◌-◌, arith}
use Rattle.region_algebra.proofs.Turns.{is_region-length, node-within}
use Rattle.view_store.proofs.CutSums.{shares-small, sum-before, sum-last, sum-not, sum-small, sum-whole}
use Rattle.view_store.proofs.cut.code_over.Goals as goal

pub loop-d-init : goal.loop-d-init
loop-d-init c = sum-last c.args.space.now c.args.depths.now c.args.r c.dims-d.result c.requires.depths c.requires.region c.dims-d.ensures.count

pub node-requires : goal.node-requires
node-requires c = omega (arith, is_region-length c.args.space.now c.args.r c.requires.region, c.loop-d.invariant.within, c.loop-d-test.true)

pub share_over-requires-clause-within : goal.share_over-requires-clause-within
share_over-requires-clause-within c = node-within c.args.space.now c.args.r (c.loop-d.d - 1) c.dim.result.now c.node.result c.requires.region c.dim.ensures c.node.ensures

pub share_over-requires-clause-small : goal.share_over-requires-clause-small
share_over-requires-clause-small c = shares-small c.args.space.now (c.loop-d.d - 1) c.region_step.result c.dim.result.now c.dims-d.ensures.trees c.dims-d.ensures.accepted c.dim.ensures c.region_step.ensures

pub returns-in_err-code-clause-some : goal.returns-in_err-code-clause-some
returns-in_err-code-clause-some c =
    sum-not c.args.space.now c.args.depths.now c.args.r (c.loop-d.d - 1) c.dim.result.now c.node.result c.region_step.result c.dim.ensures (omega (arith, c.requires.depths, c.loop-d.invariant.within, c.loop-d-test.true)) c.node.ensures c.from_residual.result c.from_residual.ensures c.in_err-code.ensures

pub overflow_add-code : goal.overflow_add-code
overflow_add-code c =
    let sum = sum-before c.args.space.now c.args.depths.now c.args.r (c.loop-d.d - 1) c.dim.result.now c.node.result c.region_step.result c.dim.ensures (omega (arith, c.requires.depths, c.loop-d.invariant.within, c.loop-d-test.true)) c.node.ensures c.loop-d.d c.in_ok-code.field-0 c.loop-d.code (omega (arith, c.loop-d-test.true)) c.in_ok-code.ensures c.region_step.ensures c.loop-d.invariant in
    omega (arith, sum-small c.args.space.now c.args.depths.now c.args.r (c.loop-d.d - 1) _ c.dims-d.ensures.trees c.dims-d.ensures.accepted sum)

pub loop-d-preserved : goal.loop-d-preserved
loop-d-preserved c =
    sum-before c.args.space.now c.args.depths.now c.args.r (c.loop-d.d - 1) c.dim.result.now c.node.result c.region_step.result c.dim.ensures (omega (arith, c.requires.depths, c.loop-d.invariant.within, c.loop-d-test.true)) c.node.ensures c.loop-d.d c.in_ok-code.field-0 c.loop-d.code (omega (arith, c.loop-d-test.true)) c.in_ok-code.ensures c.region_step.ensures c.loop-d.invariant

pub returns-clause-some : goal.returns-clause-some
returns-clause-some c = (sum-whole c.args.space.now c.args.depths.now c.args.r c.loop-d.d c.loop-d.code c.dims-d.ensures.trees c.requires.region (omega (arith, c.loop-d-test.false)) c.loop-d.invariant).0

pub returns-clause-over : goal.returns-clause-over
returns-clause-over c = (sum-whole c.args.space.now c.args.depths.now c.args.r c.loop-d.d c.loop-d.code c.dims-d.ensures.trees c.requires.region (omega (arith, c.loop-d-test.false)) c.loop-d.invariant).1
