use Rattle.dim_tree.proofs.Placing.{HasPlaces}
use Rattle.dim_tree.proofs.numbering.places_of.Given as goal

abbrev pub invariant-loop-place : goal.invariant-loop-place
invariant-loop-place l = HasPlaces l.numbers l.place l.places.items
