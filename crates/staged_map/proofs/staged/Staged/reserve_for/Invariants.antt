-- The keys of the entries before this one have places.
use Rattle.std.proofs.Common.{take}
use Rattle.std.specs.Map.{keys_of}
use Rattle.staged_map.specs.Staged.{Reserves}
use Rattle.staged_map.proofs.staged.Staged.reserve_for.Given as goal

abbrev pub invariant-loop-key : goal.invariant-loop-key
invariant-loop-key g l = Reserves l.initial.self l.self (take l.key-index (keys_of l.entries))
