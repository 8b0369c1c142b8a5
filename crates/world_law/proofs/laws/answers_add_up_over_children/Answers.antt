use Rattle.world_law.proofs.Additive.{add_up_over_children}
use Rattle.world_law.proofs.laws.answers_add_up_over_children.Goals as goal

pub returns : goal.returns
returns c = add_up_over_children
