use Rattle.region_algebra.proofs.Intervals as intervals
use Rattle.region_algebra.proofs.laws.nested_or_apart.Goals as goal

pub returns : goal.returns
returns c = λ dim x y tree first second. intervals.nested_or_apart dim x y tree first second
