use Rattle.std.proofs.Common.{◌-◌, length}
use Rattle.group_sum.specs.Back.{IsPlaceBehind}
use Rattle.group_sum.proofs.merge.first_from.Given as goal

-- smaller denominators are behind
abbrev pub invariant-smaller : goal.invariant-smaller
invariant-smaller l = IsPlaceBehind l.terms.terms l.den l.at

abbrev pub decreases-smaller : goal.decreases-smaller
decreases-smaller l = length l.terms.terms - l.at
