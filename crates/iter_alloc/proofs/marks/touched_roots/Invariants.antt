-- The roots of the spots before this one are touched as their regions share cells.
use Rattle.iter_alloc.proofs.marks.touched_roots.Given as goal
use Rattle.iter_alloc.specs.Marks.{AreTouched}

abbrev pub invariant-loop-i : goal.invariant-loop-i
invariant-loop-i l = AreTouched l.space l.firsts l.roots l.fn.r l.i l.touched.items
