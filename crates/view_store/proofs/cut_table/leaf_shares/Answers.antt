-- The share of the next leaf is listed.
use Rattle.cube_model.specs.Tree.{leaves}
use Rattle.view_store.proofs.CutTables.{shares-next}
use Rattle.view_store.proofs.cut_table.leaf_shares.Goals as goal

pub loop-i-preserved : goal.loop-i-preserved
loop-i-preserved c =
    rw c.in_ok-push.ensures.items (shares-next c.args.dim.now c.args.depth c.args.step (leaves c.args.dim.now) c.loop-i.i c.leaf_node.result c.loop-i.shares.items c.share_over.result c.loop-i.invariant c.leaf_node.ensures.leaf c.share_over.ensures)
