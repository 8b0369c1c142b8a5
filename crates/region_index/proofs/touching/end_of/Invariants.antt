-- The end is not before the lower bound, nor behind the higher one.
use Rattle.std.proofs.Common.{◌+◌, ◌-◌, ◌≤◌, length}
use Rattle.region_algebra.proofs.Intervals.{end_of}
use Rattle.region_index.proofs.touching.end_of.Given as goal

abbrev pub invariant-loop-low : goal.invariant-loop-low
invariant-loop-low l = record {
  ordered : l.low ≤ l.high;
  within : l.high ≤ length l.dim;
  behind : l.place + 1 ≤ l.low;
  least : l.low ≤ end_of l.dim l.place;
  most : end_of l.dim l.place ≤ l.high;
}

abbrev pub decreases-loop-low : goal.decreases-loop-low
decreases-loop-low l = l.high - l.low
