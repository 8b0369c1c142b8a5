use Rattle.world_range.proofs.Reached.{ends_reached}
use Rattle.world_range.proofs.laws.ends_are_reached.Goals as goal

pub returns : goal.returns
returns c = ends_reached
