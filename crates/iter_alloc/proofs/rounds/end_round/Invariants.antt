-- The places before this one stand as they were to stand, and begin anew.
use Rattle.iter_alloc.proofs.rounds.end_round.Given as goal
use Rattle.iter_alloc.proofs.PlaceLists.{Renewing}

abbrev pub invariant-loop-i : goal.invariant-loop-i
invariant-loop-i l = Renewing l.begun l.initial.places l.i l.places
