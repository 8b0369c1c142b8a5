-- The regions before this one are claimed.
use Rattle.iter_alloc.proofs.claims.claim_regions.Given as goal
use Rattle.iter_alloc.proofs.ClaimSteps.{ClaimingRegions}

abbrev pub invariant-loop-first : goal.invariant-loop-first
invariant-loop-first l = ClaimingRegions l.space l.firsts l.first-index l.spot l.owners.entries l.parents
