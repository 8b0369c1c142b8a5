use Rattle.group_sum.specs.Rows.{difference_at}
use Rattle.group_sum.proofs.Written.{IsSameFrom, IsWrittenBelow}
use Rattle.group_sum.proofs.row.take_away.Given as goal

-- the places before k have their numerators, and those from it on are as they were
abbrev pub invariant-loop-k : goal.invariant-loop-k
invariant-loop-k l = record { done : IsWrittenBelow l.k l.row (difference_at l.initial.row l.other); ahead : IsSameFrom l.k l.initial.row l.row }
