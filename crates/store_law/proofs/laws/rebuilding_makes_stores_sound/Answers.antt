use Rattle.store_law.proofs.Commands.{rebuilds-sound}
use Rattle.store_law.proofs.laws.rebuilding_makes_stores_sound.Goals as goal

pub returns : goal.returns
returns c = rebuilds-sound
