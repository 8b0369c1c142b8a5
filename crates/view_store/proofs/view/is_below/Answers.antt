-- In each dimension the node is under the other.
use Rattle.std.proofs.Common.{sym, ◌∙◌, arith, ap}
use Rattle.cube_model.specs.Cells.{is_inside}
use Rattle.region_algebra.proofs.Turns.{is_region-length, node-within}
use Rattle.view_store.proofs.CutRegions.{region_at-is}
use Rattle.view_store.proofs.Serving.{inside-end, inside-next, inside-not}
use Rattle.view_store.proofs.view.is_below.Goals as goal

pub node-requires : goal.node-requires
node-requires c =
    let region = rw c.unwrap-below.ensures at c.uncode.ensures.some in
    omega (arith, is_region-length c.args.space.now c.unwrap-below.result region, c.loop-d-test.true, c.dims-d-end.ensures.count)

pub node-requires-in-loop-d : goal.node-requires-in-loop-d
node-requires-in-loop-d c = omega (arith, is_region-length c.args.space.now c.args.r c.requires.region, c.loop-d-test.true, c.dims-d-end.ensures.count)

pub is_under-requires-clause-lower : goal.is_under-requires-clause-lower
is_under-requires-clause-lower c =
    let region = rw c.unwrap-below.ensures at c.uncode.ensures.some in
    node-within c.args.space.now c.unwrap-below.result c.loop-d.d c.dim.result.now c.node.result region c.dim.ensures c.node.ensures

pub is_under-requires-clause-upper : goal.is_under-requires-clause-upper
is_under-requires-clause-upper c = node-within c.args.space.now c.args.r c.loop-d.d c.dim.result.now c.node-in-loop-d.result c.requires.region c.dim.ensures c.node-in-loop-d.ensures

pub returns-then-not-is_under : goal.returns-then-not-is_under
returns-then-not-is_under c =
    let at = region_at-is c.args.space.now c.args.code c.unwrap-below.result (sym c.uncode.ensures.region ∙ c.unwrap-below.ensures) in
    inside-not c.args.space.now c.args.r c.unwrap-below.result c.loop-d.d c.dim.result.now c.node-in-loop-d.result c.node.result c.dim.ensures c.node-in-loop-d.ensures c.node.ensures _
    (ap (is_inside c.args.space.now c.args.r) at ∙ c.loop-d.invariant) (sym c.is_under.ensures ∙ grind (arith, c.if-not-is_under.true))

pub loop-d-preserved : goal.loop-d-preserved
loop-d-preserved c =
    inside-next c.args.space.now c.args.r c.unwrap-below.result c.loop-d.d c.dim.result.now c.node-in-loop-d.result c.node.result c.dim.ensures c.node-in-loop-d.ensures c.node.ensures _
    c.loop-d.invariant (sym c.is_under.ensures ∙ grind (arith, c.if-not-is_under.false))

pub returns : goal.returns
returns c =
    let at = region_at-is c.args.space.now c.args.code c.unwrap-below.result (sym c.uncode.ensures.region ∙ c.unwrap-below.ensures) in
    let region = rw c.unwrap-below.ensures at c.uncode.ensures.some in
    sym (ap (is_inside c.args.space.now c.args.r) at ∙ c.loop-d.invariant ∙ inside-end c.args.space.now c.args.r c.unwrap-below.result c.loop-d.d c.requires.region region (omega (arith, c.loop-d-test.false, c.dims-d-end.ensures.count)))
