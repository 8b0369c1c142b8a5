-- The shares of the leaves before this one are listed.
use Rattle.cube_model.specs.Tree.{leaves}
use Rattle.view_store.specs.CutTables.{AreShares}
use Rattle.view_store.proofs.cut_table.leaf_shares.Given as goal

abbrev pub invariant-loop-i : goal.invariant-loop-i
invariant-loop-i l = AreShares l.dim l.depth l.step (leaves l.dim) l.i l.shares.items
