-- The shares of the groups before this place.
use Rattle.std.proofs.Common.{◌≡◌, take}
use Rattle.cube_state.specs.Answering.{groups_held, shares_of}
use Rattle.cube_state.proofs.state.State.shares_in.Given as goal

abbrev pub invariant-loop-i : goal.invariant-loop-i
invariant-loop-i g l = l.shares.items ≡ shares_of l.fn.region (groups_held (take l.i l.self-inside.groups))
