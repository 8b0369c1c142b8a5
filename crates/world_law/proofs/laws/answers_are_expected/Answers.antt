use Rattle.world_law.proofs.Grouping.{lawful}
use Rattle.world_law.proofs.laws.answers_are_expected.Goals as goal

pub returns : goal.returns
returns c = lawful
