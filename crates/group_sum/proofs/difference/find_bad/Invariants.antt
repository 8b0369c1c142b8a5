use Rattle.std.proofs.Common.{take}
use Rattle.group_sum.specs.Merge.{HasRemainders}
use Rattle.group_sum.proofs.difference.find_bad.Given as goal

-- something can be left at each denominator of the part so far, and at those that it has not
abbrev pub invariant-loop-j : goal.invariant-loop-j
invariant-loop-j l = HasRemainders l.whole (record { columns = l.part.columns; terms = take l.j l.part.terms })
