-- A region more is claimed.
use Rattle.iter_alloc.proofs.claims.claim_regions.Goals as goal
use Rattle.iter_alloc.proofs.ClaimSteps.{regions-all, regions-next, regions-start}

pub loop-first-init : goal.loop-first-init
loop-first-init c = regions-start c.args.space.now c.args.firsts.now c.args.parents.now c.new-owners.result.entries c.new-owners.ensures.empty c.requires.places

pub loop-first-preserved : goal.loop-first-preserved
loop-first-preserved c =
    let said = c.in_ok-claim_region.ensures in
    regions-next c.args.space.now c.args.firsts.now c.loop-first.first-index c.loop-first.spot c.loop-first.owners.entries c.loop-first.parents c.loop-first.invariant c.first-item.result c.loop-first-test.true c.first-item.is
    c.claim_region.new.owners.entries c.claim_region.new.parents said.forest said.as_many said.owners said.claimed

pub returns-clause-roots : goal.returns-clause-roots
returns-clause-roots c = regions-all c.args.space.now c.args.firsts.now c.loop-first.first-index c.loop-first.spot c.loop-first.owners.entries c.loop-first.parents c.loop-first.invariant c.loop-first-test.false
