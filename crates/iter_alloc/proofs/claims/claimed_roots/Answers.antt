-- The roots are those that the claims came to.
use Rattle.iter_alloc.proofs.claims.claimed_roots.Goals as goal
use Rattle.iter_alloc.proofs.ClaimSteps.{own-roots}
use Rattle.iter_alloc.specs.Claims.{roots_of}
use Rattle.iter_alloc.specs.Forest.{AreOwnRoots}
use Rattle.iter_alloc.specs.Spotting.{regions_of}
use Rattle.std.proofs.Common.{ℕ, List, sym, subst}

pub returns-clause-own : goal.returns-clause-own
returns-clause-own c =
    let all = roots_of c.args.space.now (regions_of c.args.firsts.now) in
    let are = c.in_ok-claim_regions.ensures.roots in
    subst (λ (rs : List ℕ). AreOwnRoots rs) (sym (c.in_ok-found.ensures all are)) (own-roots c.claim_regions.new.parents all are)
