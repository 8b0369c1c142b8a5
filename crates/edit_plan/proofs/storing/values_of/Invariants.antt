-- The values before this one.
use Rattle.std.proofs.Common.{◌≡◌, take}
use Rattle.edit_plan.proofs.storing.values_of.Given as goal

abbrev pub invariant-loop-i : goal.invariant-loop-i
invariant-loop-i l = l.values ≡ take l.i l.cols
