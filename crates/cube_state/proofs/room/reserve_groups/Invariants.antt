-- The codes of the entries before this one have places.
use Rattle.std.proofs.Common.{take}
use Rattle.std.specs.Map.{keys_of}
use Rattle.staged_map.specs.Staged.{Reserves}
use Rattle.cube_state.proofs.room.reserve_groups.Given as goal

abbrev pub invariant-loop-code : goal.invariant-loop-code
invariant-loop-code l = Reserves l.initial.groups l.groups (take l.code-index (keys_of l.entries))
