-- A fact more joins the group of its region's code.
use Rattle.fact_indexes.proofs.GroupsSoFar.{can-be-added, few-counted, groups-joined, members-few}
use Rattle.fact_indexes.proofs.grouping.groups_of.Goals as goal

pub group_joined-requires-clause-counted : goal.group_joined-requires-clause-counted
group_joined-requires-clause-counted g c = few-counted (g.P.WeightPolicy.weigh c.args.policy.now) _ _ _ c.requires.valid _ c.requires.stats c.in-Some.fact.region

pub group_joined-requires-clause-few : goal.group_joined-requires-clause-few
group_joined-requires-clause-few g c =
    members-few (g.P.WeightPolicy.weigh c.args.policy.now) _ _ _ c.columns.ensures.shape c.requires.valid _ _ _ _ c.loop-fact.invariant c.in-Some.ensures.steps _ c.code-code.ensures.code _ c.get.ensures

pub group_joined-requires-clause-added : goal.group_joined-requires-clause-added
group_joined-requires-clause-added g c =
    can-be-added (g.P.WeightPolicy.weigh c.args.policy.now) _ _ _ c.columns.ensures.shape c.requires.valid _ _ _ _ c.loop-fact.invariant c.in-Some.ensures.steps _ c.code-code.ensures.code _ c.get.ensures

pub loop-fact-preserved : goal.loop-fact-preserved
loop-fact-preserved g c =
    groups-joined (g.P.WeightPolicy.weigh c.args.policy.now) _ _ _ c.columns.ensures.shape c.requires.valid _ _ _ _ c.loop-fact.invariant c.in-Some.ensures.steps _ c.code-code.ensures.code _ _ c.in_ok-put_group.ensures
    _ c.requires.stats _ c.get.ensures c.in_ok-group.ensures
