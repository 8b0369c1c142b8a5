-- The places before this one stand as they begin.
use Rattle.iter_alloc.proofs.rounds.begun_places.Given as goal
use Rattle.iter_alloc.specs.Places.{levels_in, nexts_in}
use Rattle.std.proofs.Common.{◌≡◌, take}

abbrev pub invariant-loop-level : goal.invariant-loop-level
invariant-loop-level l = (levels_in l.places.items ≡ take l.level-index l.begun) × (nexts_in l.places.items ≡ take l.level-index l.begun)
