use Rattle.std.proofs.Common.{rules}
use Rattle.group_sum.proofs.Subtracting.{has_difference}
use Rattle.group_sum.proofs.difference.subtract.Goals as goal

-- where something can be left at each denominator, none is bad
pub returns-in_err-subtract_all-in-None-clause-fault : goal.returns-in_err-subtract_all-in-None-clause-fault
returns-in_err-subtract_all-in-None-clause-fault c = let possible = has_difference _ _ c.in-None.ensures in search (rules, possible)

pub returns-in_ok-subtract_all-in-None-clause-possible : goal.returns-in_ok-subtract_all-in-None-clause-possible
returns-in_ok-subtract_all-in-None-clause-possible c = has_difference _ _ c.in-None.ensures
