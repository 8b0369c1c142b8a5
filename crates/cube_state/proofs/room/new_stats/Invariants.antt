-- The new statistics of the changes before this one are listed.
use Rattle.std.proofs.Common.{◌≡◌, take}
use Rattle.alloc_rows.specs.Changed.{new_stats}
use Rattle.cube_state.proofs.room.new_stats.Given as goal

abbrev pub invariant-loop-change : goal.invariant-loop-change
invariant-loop-change l = l.stats ≡ new_stats (take l.change-index l.change-items)
