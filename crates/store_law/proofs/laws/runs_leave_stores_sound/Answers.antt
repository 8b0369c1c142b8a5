use Rattle.store_law.proofs.Commands.{cube-begins, cube-stays}
use Rattle.store_law.proofs.laws.runs_leave_stores_sound.Goals as goal

pub returns : goal.returns
returns c = record { stays = cube-stays; begins = cube-begins }
