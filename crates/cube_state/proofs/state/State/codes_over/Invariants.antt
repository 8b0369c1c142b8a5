-- What is found over the cells before this one.
use Rattle.std.proofs.Common.{take}
use Rattle.cube_state.proofs.Covering.{AreOver}
use Rattle.cube_state.proofs.state.State.codes_over.Given as goal

abbrev pub invariant-loop-cell : goal.invariant-loop-cell
invariant-loop-cell g l = AreOver l.self-inside.space l.self-inside.facts.facts (take l.cell-index l.changes) l.codes.items l.initial.steps l.steps
