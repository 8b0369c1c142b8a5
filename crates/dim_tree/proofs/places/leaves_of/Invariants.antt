use Rattle.dim_tree.proofs.Passes.{HasLeaves}
use Rattle.dim_tree.proofs.places.leaves_of.Given as goal

abbrev pub invariant-loop-place : goal.invariant-loop-place
invariant-loop-place l = HasLeaves l.depths l.place l.before.items l.leaves.items
