-- Climbing ends at the cut.
use Rattle.std.proofs.Common.{arith, sym, ◌∙◌}
use Rattle.view_store.proofs.CutNodes.{above-first, above-last, above-next, depth-told, reaches-leaf, some_parent}
use Rattle.view_store.proofs.cut.cut_node.Goals as goal

pub loop-node-init : goal.loop-node-init
loop-node-init c = above-first _ c.requires.tree _ _ c.requires.within

pub unwrap-node-requires : goal.unwrap-node-requires
unwrap-node-requires c =
    let deep = depth-told c.args.dim.now c.requires.tree c.loop-node.node c.depth.result c.loop-node.invariant.within c.depth.ensures.depth in
    some_parent c.args.dim.now c.loop-node.node c.args.depth _ c.requires.tree (omega (arith, deep, c.loop-node-test.true)) c.parent.ensures.root

pub loop-node-preserved : goal.loop-node-preserved
loop-node-preserved c =
    let deep = depth-told c.args.dim.now c.requires.tree c.loop-node.node c.depth.result c.loop-node.invariant.within c.depth.ensures.depth in
    above-next c.args.dim.now c.requires.tree c.args.depth c.args.low c.loop-node.node c.unwrap-node.result c.loop-node.invariant (omega (arith, deep, c.loop-node-test.true)) (sym c.parent.ensures.parent ∙ c.unwrap-node.ensures)

pub returns : goal.returns
returns c =
    let deep = depth-told c.args.dim.now c.requires.tree c.loop-node.node c.depth.result c.loop-node.invariant.within c.depth.ensures.depth in
    above-last c.args.dim.now c.requires.tree c.args.depth c.args.low c.loop-node.node (reaches-leaf c.args.dim.now c.requires.tree c.args.depth c.args.low c.requires.within c.requires.reaches) c.loop-node.invariant (omega (arith, deep, c.loop-node-test.false))
