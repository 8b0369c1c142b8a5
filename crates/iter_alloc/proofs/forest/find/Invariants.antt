-- The place that is reached has the root that is looked for, and falls.
use Rattle.iter_alloc.proofs.forest.find.Given as goal
use Rattle.iter_alloc.proofs.Roots.{Climbing}

abbrev pub invariant-loop-parents : goal.invariant-loop-parents
invariant-loop-parents l = Climbing l.fn.parents l.place l.parents l.i

abbrev pub decreases-loop-parents : goal.decreases-loop-parents
decreases-loop-parents l = l.i
