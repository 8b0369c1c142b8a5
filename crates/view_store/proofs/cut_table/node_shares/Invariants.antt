-- The shares of the nodes before this one are listed.
use Rattle.cube_model.specs.Tree.{numbers}
use Rattle.view_store.specs.CutTables.{AreShares}
use Rattle.view_store.proofs.cut_table.node_shares.Given as goal

abbrev pub invariant-loop-place : goal.invariant-loop-place
invariant-loop-place l = AreShares l.dim l.depth l.step (numbers l.dim) l.place l.shares.items
