-- The keys before this one have places.
use Rattle.std.proofs.Common.{take}
use Rattle.staged_map.specs.Staged.{Reserves}
use Rattle.staged_map.proofs.staged.Staged.reserve.Given as goal

abbrev pub invariant-loop-key : goal.invariant-loop-key
invariant-loop-key g l = Reserves l.initial.self l.self (take l.key-index l.keys)
