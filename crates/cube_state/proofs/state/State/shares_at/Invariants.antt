-- The shares of the groups at the codes before this one.
use Rattle.std.proofs.Common.{◌≡◌, take}
use Rattle.cube_state.specs.Answering.{groups_found, shares_of}
use Rattle.cube_state.proofs.state.State.shares_at.Given as goal

abbrev pub invariant-loop-code : goal.invariant-loop-code
invariant-loop-code g l = l.shares.items ≡ shares_of l.fn.region (groups_found l.self-inside.groups (take l.code-index l.codes))
