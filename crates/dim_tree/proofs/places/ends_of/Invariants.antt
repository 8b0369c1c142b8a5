use Rattle.dim_tree.proofs.Passes.{HasEnds}
use Rattle.dim_tree.proofs.places.ends_of.Given as goal

abbrev pub invariant-loop-place : goal.invariant-loop-place
invariant-loop-place l = HasEnds l.depths l.place l.next l.ends.items
