-- The spots before this one are marked.
use Rattle.iter_alloc.proofs.marks.marks_of.Given as goal
use Rattle.iter_alloc.specs.Marks.{is_marked}
use Rattle.std.proofs.Common.{◌≡◌, map, take}

abbrev pub invariant-loop-root : goal.invariant-loop-root
invariant-loop-root l = l.marks.items ≡ map (λ root. is_marked l.touched.items root) (take l.root-index l.roots)
