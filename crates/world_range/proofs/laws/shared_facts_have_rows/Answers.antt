use Rattle.world_range.proofs.Reaching.{have_rows}
use Rattle.world_range.proofs.laws.shared_facts_have_rows.Goals as goal

pub returns : goal.returns
returns c = have_rows
