use Rattle.cube_model.proofs.Ascending.{same_members}
use Rattle.fact_groups.proofs.laws.ascending_lists_are_told_by_their_members.Goals as goal

pub returns : goal.returns
returns c = same_members
