-- The cells before this one have places.
use Rattle.std.proofs.Common.{take}
use Rattle.std.specs.Map.{keys_of}
use Rattle.staged_map.specs.Staged.{Reserves}
use Rattle.cell_weight.proofs.stat_index.StatIndex.stage.Given as goal

abbrev pub invariant-loop-cell : goal.invariant-loop-cell
invariant-loop-cell l = Reserves l.initial.self-inside.stats l.self-inside.stats (take l.cell-index (keys_of l.changes))
