use Rattle.world_law.proofs.Ids.{mass-nameless, total-nameless, world_count-nameless}
use Rattle.world_law.proofs.laws.ids_do_not_matter.Goals as goal

pub returns : goal.returns
returns c = record { count = world_count-nameless; mass = mass-nameless; total = total-nameless }
