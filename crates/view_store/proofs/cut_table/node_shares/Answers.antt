-- The share of the node at the next place is listed.
use Rattle.std.proofs.Common.{arith}
use Rattle.cube_model.specs.Tree.{numbers}
use Rattle.dim_tree.proofs.Renumbering.{length-numbers}
use Rattle.region_algebra.proofs.Numbers.{number-at}
use Rattle.view_store.proofs.CutTables.{shares-at_end, shares-next}
use Rattle.view_store.proofs.cut_table.node_shares.Goals as goal

pub loop-place-preserved : goal.loop-place-preserved
loop-place-preserved c =
    rw c.in_ok-push.ensures.items (shares-next c.args.dim.now c.args.depth c.args.step (numbers c.args.dim.now) c.loop-place.place c.at.result c.loop-place.shares.items c.share_over.result c.loop-place.invariant (number-at c.args.dim.now c.loop-place.place c.at.result c.at.ensures.number) c.share_over.ensures)

pub returns : goal.returns
returns c = rw c.from.ensures (shares-at_end c.args.dim.now c.args.depth c.args.step (numbers c.args.dim.now) c.loop-place.place c.loop-place.shares.items c.loop-place.invariant (omega (arith, c.loop-place-test.false, c.loop-place.auto.place-end, c.len-place-end.ensures.count, length-numbers c.args.dim.now)))
