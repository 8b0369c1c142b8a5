-- The nodes of the dimensions before this one are found.
use Rattle.region_index.proofs.PlaceTable.{IsPart}
use Rattle.region_index.proofs.walk.Walk.code_of.Given as goal

abbrev pub invariant-loop-d : goal.invariant-loop-d
invariant-loop-d l = IsPart l.self.space.now l.self.leaves l.pattern l.d l.rest l.code
