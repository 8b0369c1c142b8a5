use Rattle.std.proofs.Common.{◌≡◌, ◌<◌, ◌≤◌, length, take}
use Rattle.group_sum.specs.Back.{IsPlaceBehind, missing_in}
use Rattle.group_sum.specs.Place.{term_at}
use Rattle.group_sum.proofs.merge.count_missing.Given as goal

-- those before place j are counted, and so far are the own terms behind
abbrev pub invariant-loop-j : goal.invariant-loop-j
invariant-loop-j l = record {
  counted : l.missing ≡ missing_in l.own.terms (take l.j l.other.terms);
  few : l.missing ≤ l.j;
  behind : l.j < length l.other.terms → IsPlaceBehind l.own.terms (term_at l.other.terms l.j).den l.i;
}
