-- The codes over the dimensions from this one on.
use Rattle.region_index.proofs.RegionsInLine.{AreFrom}
use Rattle.region_index.proofs.touching.codes_in_line.Given as goal

abbrev pub invariant-loop-d : goal.invariant-loop-d
invariant-loop-d l = AreFrom l.space l.r l.d l.step l.codes.items
