-- The facts are looked at one after another.
use Rattle.std.proofs.Common.{◌∙◌}
use Rattle.cube_state.specs.State.{policy_in}
use Rattle.store_audit.proofs.Walking.{walked-all, walked-next, walked-none, walked-there}
use Rattle.store_audit.proofs.mending.rows_to_put.Goals as goal

pub loop-fact-init : goal.loop-fact-init
loop-fact-init g c =
    let state = c.args.state.now in
    walked-none (policy_in g.P.WeightPolicy.weigh state) state.dims state.facts c.args.kept.now _ _ c.facts.ensures.valid.ascending c.new-rows.ensures
    (c.into_iter-fact-iterator.ensures.into_iter_gives ∙ c.iter-fact-items.ensures ∙ c.facts.ensures.facts)

pub put_wanting-requires-clause-there : goal.put_wanting-requires-clause-there
put_wanting-requires-clause-there g c = walked-there _ _ _ _ _ _ c.loop-fact.invariant _ _ c.in-Some.ensures.steps

pub loop-fact-preserved : goal.loop-fact-preserved
loop-fact-preserved g c = walked-next _ _ _ _ _ _ c.loop-fact.invariant _ _ _ c.in-Some.ensures.steps c.in_ok-put_wanting.ensures

pub returns : goal.returns
returns g c = walked-all _ _ _ _ _ _ c.loop-fact.invariant c.in-None.ensures.steps.0
