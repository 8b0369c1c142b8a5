-- The roots of the places before this one.
use Rattle.iter_alloc.proofs.forest.roots.Given as goal
use Rattle.iter_alloc.proofs.Roots.{Rooting}

abbrev pub invariant-loop-i : goal.invariant-loop-i
invariant-loop-i l = Rooting l.parents l.i l.roots.items
