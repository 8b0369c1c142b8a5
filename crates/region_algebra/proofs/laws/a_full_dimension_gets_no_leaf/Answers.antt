use Rattle.region_algebra.proofs.Growing.{child_fault-full}
use Rattle.region_algebra.proofs.laws.a_full_dimension_gets_no_leaf.Goals as goal

pub returns : goal.returns
returns c = child_fault-full
