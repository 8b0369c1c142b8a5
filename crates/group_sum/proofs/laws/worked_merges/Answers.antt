use Rattle.std.proofs.Common.{refl}
use Rattle.cube_model.specs.Answer.{merge}
use Rattle.group_sum.proofs.laws.worked_merges.Goals as goal

-- the definition computes it
pub returns : goal.returns
unfolding merge
returns c = record { two = refl; three = refl; back = record { columns = refl; merges = refl } }
