use Rattle.store_law.proofs.GoingOn.{goes-on}
use Rattle.store_law.proofs.laws.scripts_go_on_over_what_is_kept.Goals as goal

pub returns : goal.returns
returns c = goes-on
