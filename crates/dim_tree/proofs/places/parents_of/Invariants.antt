use Rattle.dim_tree.proofs.Passes.{HasParents}
use Rattle.dim_tree.proofs.places.parents_of.Given as goal

abbrev pub invariant-loop-place : goal.invariant-loop-place
invariant-loop-place l = HasParents l.depths l.place l.last l.parents.items
