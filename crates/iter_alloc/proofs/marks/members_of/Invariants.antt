-- The facts before this one are counted.
use Rattle.iter_alloc.proofs.marks.members_of.Given as goal
use Rattle.iter_alloc.proofs.Marking.{Membering}
use Rattle.std.proofs.Common.{drop}

abbrev pub invariant-loop-spot : goal.invariant-loop-spot
invariant-loop-spot l = Membering l.spots l.fn.count (drop l.spot-index l.spots) l.members.items
