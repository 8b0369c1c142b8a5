-- The ends of the facts of the ids before this one.
use Rattle.std.proofs.Common.{take}
use Rattle.cube_state.proofs.EitherEnds.{AreOfIds}
use Rattle.cube_state.proofs.ranging.found_ends.Given as goal

abbrev pub invariant-loop-id : goal.invariant-loop-id
invariant-loop-id l = AreOfIds l.column l.facts.facts (take l.id-index l.ids) l.id-index l.ends
