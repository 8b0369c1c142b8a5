-- The spots so far are laid out.
use Rattle.iter_alloc.proofs.layout.lay_out.Given as goal
use Rattle.iter_alloc.specs.LaidOut.{AreLaidOut}

abbrev pub invariant-loop-i : goal.invariant-loop-i
invariant-loop-i l = AreLaidOut l.space l.firsts l.marks l.members l.i l.cells.keys l.flat.items l.spans.items
