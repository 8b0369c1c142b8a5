use Rattle.std.proofs.Common.{◌≡◌, drop}
use Rattle.std.specs.Cmp.Lexicographic.{pointwise}
use Rattle.std.specs.Ordering.{int_eq}
use Rattle.feed_run.proofs.same_base.are_values.Given as goal

abbrev pub invariant-loop-i : goal.invariant-loop-i
invariant-loop-i l = pointwise int_eq l.values l.cols ≡ pointwise int_eq (drop l.i l.values) (drop l.i l.cols)
