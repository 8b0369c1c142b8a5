-- Climbing has not passed the cut; each turn leads to a smaller number.
use Rattle.view_store.proofs.CutNodes.{IsAbove}
use Rattle.view_store.proofs.cut.cut_node.Given as goal

abbrev pub invariant-loop-node : goal.invariant-loop-node
invariant-loop-node l = IsAbove l.dim l.depth l.low l.node

abbrev pub decreases-loop-node : goal.decreases-loop-node
decreases-loop-node l = l.node
