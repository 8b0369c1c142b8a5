-- The facts are put into a state without any, and all are accepted or have too many rows.
use Rattle.std.proofs.Common.{ap, get_or, subst, sym, ◌∙◌}
use Rattle.fact_records.specs.Valid.{AreValid}
use Rattle.cube_core.specs.Growth.{has_large_region}
use Rattle.cube_core.proofs.Fresh.{few-told, fault-told, new-over, over-told}
use Rattle.cube_core.proofs.respread.state_over.Goals as goal

pub has_large_region-requires : goal.has_large_region-requires
has_large_region-requires g c =
    let valid = subst (AreValid c.args.state.now.shape c.args.state.now.dims) (sym c.facts-facts.ensures.facts) c.facts-facts.ensures.valid in
    λ k d within. c.requires.regions (get_or c.facts-facts.result.now.facts k d).region (valid.each k d within).accepted.placed.region

pub plan_all-requires : goal.plan_all-requires
plan_all-requires g c =
    new-over g.P.WeightPolicy.weigh c.args.space.now c.args.state.now c.in_ok-later.later
    (record { policy = c.in_ok-later.ensures.policy; dims = c.in_ok-later.ensures.dims ∙ c.in_ok-copy.ensures; shape = c.in_ok-later.ensures.shape; cuts = c.in_ok-later.ensures.cuts; facts = c.in_ok-later.ensures.facts })
    c.facts-facts.ensures.valid c.in_ok-all.all (c.in_ok-all.ensures ∙ c.facts-facts.ensures.facts)
    (ap (has_large_region c.args.space.now) (sym c.facts-facts.ensures.facts) ∙ sym c.has_large_region.ensures ∙ c.if-has_large_region.false) c.requires

pub returns-in-Err-clause-fault : goal.returns-in-Err-clause-fault
returns-in-Err-clause-fault g c =
    rw c.from.ensures
    (fault-told g.P.WeightPolicy.weigh c.args.space.now c.args.state.now c.in_ok-later.later
    (record { policy = c.in_ok-later.ensures.policy; dims = c.in_ok-later.ensures.dims ∙ c.in_ok-copy.ensures; shape = c.in_ok-later.ensures.shape; cuts = c.in_ok-later.ensures.cuts; facts = c.in_ok-later.ensures.facts })
    c.facts-facts.ensures.valid c.in_ok-all.all (c.in_ok-all.ensures ∙ c.facts-facts.ensures.facts)
    (ap (has_large_region c.args.space.now) (sym c.facts-facts.ensures.facts) ∙ sym c.has_large_region.ensures ∙ c.if-has_large_region.false) c.in-Err.fault c.in-Err.ensures.fault)

pub returns-clause-over : goal.returns-clause-over
returns-clause-over g c =
    over-told g.P.WeightPolicy.weigh c.args.space.now c.args.state.now c.in_ok-later.later
    (record { policy = c.in_ok-later.ensures.policy; dims = c.in_ok-later.ensures.dims ∙ c.in_ok-copy.ensures; shape = c.in_ok-later.ensures.shape; cuts = c.in_ok-later.ensures.cuts; facts = c.in_ok-later.ensures.facts })
    c.facts-facts.ensures.valid c.in_ok-all.all (c.in_ok-all.ensures ∙ c.facts-facts.ensures.facts) _ _ c.in-Ok.ensures.facts c.install.ensures

pub returns-clause-accepted : goal.returns-clause-accepted
returns-clause-accepted g c =
    few-told g.P.WeightPolicy.weigh c.args.space.now c.args.state.now c.in_ok-later.later
    (record { policy = c.in_ok-later.ensures.policy; dims = c.in_ok-later.ensures.dims ∙ c.in_ok-copy.ensures; shape = c.in_ok-later.ensures.shape; cuts = c.in_ok-later.ensures.cuts; facts = c.in_ok-later.ensures.facts })
    c.facts-facts.ensures.valid c.in_ok-all.all (c.in_ok-all.ensures ∙ c.facts-facts.ensures.facts)
    (ap (has_large_region c.args.space.now) (sym c.facts-facts.ensures.facts) ∙ sym c.has_large_region.ensures ∙ c.if-has_large_region.false) c.in-Ok.ensures.accepted
