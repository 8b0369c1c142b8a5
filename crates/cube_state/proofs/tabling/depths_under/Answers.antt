-- The depth in the next dimension is put behind those before.
use Rattle.std.proofs.Common.{◌∙◌, ◌++◌, ap, append-nil, arith, sym}
use Rattle.region_algebra.proofs.Turns.{is_region-length, node-within}
use Rattle.cube_state.proofs.TableDepths.{depths-end, depths-next}
use Rattle.cube_state.proofs.tabling.depths_under.Goals as goal

pub node-requires : goal.node-requires
node-requires c = omega (arith, is_region-length c.args.space.now c.args.r c.requires.region, c.loop-d-test.true, c.dims-dims.ensures.count)

pub depth_under-cut-requires : goal.depth_under-cut-requires
depth_under-cut-requires c = node-within c.args.space.now c.args.r c.loop-d.d c.dim.result.now c.node.result c.requires.region c.dim.ensures c.node.ensures

pub loop-d-preserved : goal.loop-d-preserved
loop-d-preserved c =
    depths-next c.args.space.now c.args.depths.now c.args.r c.loop-d.d c.dim.result.now c.node.result c.dim.ensures (omega (arith, c.requires.depths, c.loop-d-test.true, c.dims-dims.ensures.count)) c.node.ensures
    _ c.loop-d.cuts.items c.push.new.self.items c.depth_under-cut.result c.loop-d.invariant c.depth_under-cut.ensures c.in_ok-push.ensures.items

pub returns : goal.returns
returns c =
    c.from.ensures
    ∙ sym (c.loop-d.invariant ∙ ap (λ rest. c.loop-d.cuts.items ++ rest) (depths-end c.args.space.now c.args.depths.now c.args.r c.loop-d.d (omega (arith, c.loop-d-test.false, c.dims-dims.ensures.count))) ∙ append-nil c.loop-d.cuts.items)
