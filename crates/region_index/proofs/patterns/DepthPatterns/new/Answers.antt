-- Nothing is listed at first.
use Rattle.region_index.proofs.Noting.{IsListed-none}
use Rattle.region_index.proofs.patterns.DepthPatterns.new.Goals as goal

pub invariant_of-result : goal.invariant_of-result
invariant_of-result c = rw c.new.ensures IsListed-none
