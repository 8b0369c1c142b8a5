use Rattle.world_range.proofs.Parts.{part-where}
use Rattle.world_range.proofs.laws.parts_are_told_by_sides.Goals as goal

pub returns : goal.returns
returns c = part-where
