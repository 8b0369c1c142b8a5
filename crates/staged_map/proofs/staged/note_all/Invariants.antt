-- The keys of the places before this one are noted.
use Rattle.std.proofs.Common.{take}
use Rattle.staged_map.specs.Hints.{AreNoted}
use Rattle.staged_map.proofs.staged.note_all.Given as goal

abbrev pub invariant-loop-i : goal.invariant-loop-i
invariant-loop-i g l = AreNoted l.hints (take l.i l.initial.places.entries)
