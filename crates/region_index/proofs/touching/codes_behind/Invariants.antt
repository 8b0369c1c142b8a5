-- The codes behind the places before this one.
use Rattle.std.proofs.Common.{◌≡◌, take}
use Rattle.region_index.specs.Touching.{codes_behind_places}
use Rattle.region_index.proofs.touching.codes_behind.Given as goal

abbrev pub invariant-loop-place : goal.invariant-loop-place
invariant-loop-place l = l.next.items ≡ codes_behind_places (take l.place-index l.places) l.step l.codes
