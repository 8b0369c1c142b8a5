-- The codes before this one have places, and in the end all do.
use Rattle.cube_state.proofs.Reserving.{places-all, places-next}
use Rattle.cube_state.proofs.room.reserve_groups.Goals as goal

pub loop-code-preserved : goal.loop-code-preserved
loop-code-preserved c = places-next _ _ _ _ _ _ c.loop-code-test.true c.loop-code-item.is c.loop-code.invariant c.in_ok-reserve.ensures.ok

pub returns-clause-placed : goal.returns-clause-placed
returns-clause-placed c = places-all _ _ _ _ c.loop-code-test.false c.loop-code.invariant
