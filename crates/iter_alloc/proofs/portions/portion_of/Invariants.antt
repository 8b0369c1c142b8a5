-- The shares of the places before this one are found.
use Rattle.iter_alloc.proofs.portions.portion_of.Given as goal
use Rattle.iter_alloc.proofs.PortionSteps.{Finding, term_in}
use Rattle.iter_alloc.specs.Places.{levels_in}

abbrev pub invariant-loop-i : goal.invariant-loop-i
invariant-loop-i l = Finding (term_in l.inside l.cells.keys (levels_in l.places) l.own) l.own l.i-index l.portion
