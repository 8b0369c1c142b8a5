use Rattle.world_law.proofs.Expectation.{expectation}
use Rattle.world_law.proofs.laws.totals_are_expected.Goals as goal

pub returns : goal.returns
returns c = expectation
