use Rattle.std.proofs.Common.{◌≡◌, ◌+◌, take}
use Rattle.group_sum.proofs.Backwards.{IsBack}
use Rattle.group_sum.proofs.merge.merge.Given as goal

-- what is ahead and what is behind add up to both lists
abbrev pub invariant-back : goal.invariant-back
invariant-back l = record {
  columns : l.rows.columns ≡ l.fn.rows.columns;
  back : IsBack l.fn.rows.columns (take l.own l.fn.rows.terms) l.other.terms l.rows.terms l.ahead.own l.ahead.other l.ahead.place;
}

abbrev pub decreases-back : goal.decreases-back
decreases-back l = l.ahead.own + l.ahead.other
