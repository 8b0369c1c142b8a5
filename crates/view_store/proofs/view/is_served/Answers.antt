-- In each dimension the node lies no deeper.
use Rattle.std.proofs.Common.{sym, ◌∙◌, arith}
use Rattle.region_algebra.proofs.Turns.{is_region-length, node-within}
use Rattle.view_store.proofs.Serving.{serves-end, serves-next, serves-not}
use Rattle.view_store.proofs.view.is_served.Goals as goal

pub node-requires : goal.node-requires
node-requires c = omega (arith, is_region-length c.args.space.now c.args.r c.requires.region, c.loop-d-test.true, c.dims-d-end.ensures.count)

pub depth-requires : goal.depth-requires
depth-requires c = node-within c.args.space.now c.args.r c.loop-d.d c.dim.result.now c.node.result c.requires.region c.dim.ensures c.node.ensures

pub returns-then-depth-depths : goal.returns-then-depth-depths
returns-then-depth-depths c =
    serves-not c.args.space.now c.args.depths.now c.args.r c.loop-d.d c.dim.result.now c.node.result c.depth.result c.dim.ensures (omega (arith, c.requires.depths, c.loop-d-test.true, c.dims-d-end.ensures.count)) c.node.ensures c.depth.ensures.depth _ c.loop-d.invariant (omega (arith, c.if-depth-depths.true))

pub loop-d-preserved : goal.loop-d-preserved
loop-d-preserved c =
    serves-next c.args.space.now c.args.depths.now c.args.r c.loop-d.d c.dim.result.now c.node.result c.depth.result c.dim.ensures (omega (arith, c.requires.depths, c.loop-d-test.true, c.dims-d-end.ensures.count)) c.node.ensures c.depth.ensures.depth _ c.loop-d.invariant (omega (arith, c.if-depth-depths.false))

pub returns : goal.returns
returns c = sym (c.loop-d.invariant ∙ serves-end c.args.space.now c.args.depths.now c.args.r c.loop-d.d c.requires.depths c.requires.region (omega (arith, c.loop-d-test.false, c.dims-d-end.ensures.count)))
