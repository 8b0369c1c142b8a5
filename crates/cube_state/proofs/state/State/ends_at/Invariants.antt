-- The ends of the facts at the codes before this one.
use Rattle.std.proofs.Common.{take}
use Rattle.cube_state.proofs.EndsSoFar.{AreEndsOver}
use Rattle.cube_state.proofs.state.State.ends_at.Given as goal

abbrev pub invariant-loop-code : goal.invariant-loop-code
invariant-loop-code g l = AreEndsOver g.P.WeightPolicy.weigh l.self l.fn.region l.column (take l.code-index l.codes) l.code-index l.ends
