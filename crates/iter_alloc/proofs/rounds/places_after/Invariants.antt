-- The places stand as after the rounds so far.
use Rattle.iter_alloc.proofs.rounds.places_after.Given as goal
use Rattle.iter_alloc.proofs.Standing.{Standing}
use Rattle.iter_alloc.specs.Places.{levels_in, nexts_in, parts}

abbrev pub invariant-loop-done : goal.invariant-loop-done
invariant-loop-done l = Standing l.begun (parts l.spans l.flat) l.done (levels_in l.places.items) (nexts_in l.places.items)
