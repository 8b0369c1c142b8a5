-- The dimensions before this one have their rows, and the other rows are blank.
use Rattle.region_index.proofs.PlaceTable.{IsBegun}
use Rattle.region_index.proofs.walk.Walk.place_table.Given as goal

abbrev pub invariant-loop-d : goal.invariant-loop-d
invariant-loop-d l = IsBegun l.self.space.now l.self.leaves l.d l.table
