use Rattle.world_law.proofs.Summing.{SumsTo}
use Rattle.world_law.proofs.sum.sum_of.Given as goal

-- the columns so far were walked through
abbrev pub invariant-loop-column : goal.invariant-loop-column
invariant-loop-column l = SumsTo l.space l.r l.placed l.column l.worlds l.mass l.totals
