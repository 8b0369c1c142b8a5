-- The rows of the groups at the places before this one.
use Rattle.std.proofs.Common.{◌≡◌, take}
use Rattle.fact_indexes.proofs.HeldRows.{rows_held}
use Rattle.fact_indexes.proofs.grouping.rows_of.Given as goal

abbrev pub invariant-loop-i : goal.invariant-loop-i
invariant-loop-i g l = l.rows ≡ rows_held (take l.i l.groups)
