use Rattle.group_sum.proofs.Scaled.{IsScaledBelow}
use Rattle.group_sum.proofs.row.add_scaled.Given as goal

-- the places before k have their sums, and the others are as they were
abbrev pub invariant-loop-k : goal.invariant-loop-k
invariant-loop-k l = IsScaledBelow l.k l.initial.sums l.sums l.weight l.cols
