use Rattle.std.proofs.Common.{refl}
use Rattle.store_law.proofs.Edited.{edited-holds}
use Rattle.store_law.proofs.laws.edits_keep_stores_sound.Goals as goal

pub returns : goal.returns
returns c = record { holds = edited-holds; schema = λ policy dims content edit. refl }
