-- The ends of the facts of the groups before this place.
use Rattle.std.proofs.Common.{take}
use Rattle.std.specs.Map.{keys_of}
use Rattle.staged_map.specs.Staged.{held}
use Rattle.cube_state.proofs.EndsSoFar.{AreEndsOver}
use Rattle.cube_state.proofs.state.State.ends_of_all.Given as goal

abbrev pub invariant-loop-i : goal.invariant-loop-i
invariant-loop-i g l = AreEndsOver g.P.WeightPolicy.weigh l.self l.fn.region l.column (keys_of (held (take l.i l.self-inside.groups))) l.i l.ends
