-- All facts are left at first, and then one less each time, which is counted or not.
use Rattle.std.proofs.Common.{ℕ, ◌+◌, ◌≤◌, length, ap, ◌∙◌, arith}
use Rattle.cube_model.specs.Limits.{MAX_FACTS}
use Rattle.fact_records.specs.Shape.{width_of_all}
use Rattle.cube_state.specs.State.{policy_in}
use Rattle.edit_plan.specs.Whole.{ids_otherwise, lies_otherwise}
use Rattle.edit_plan.proofs.AllRefreshed.{IsKeptFact, counted-all, counted-next, left-first}
use Rattle.edit_plan.proofs.AllSeen.{kept-left}
use Rattle.edit_plan.proofs.whole.count_all.Goals as goal

pub loop-fact-init : goal.loop-fact-init
loop-fact-init g c =
    let policy = policy_in g.P.WeightPolicy.weigh c.args.state.now in
    let later = c.args.all.now.facts.facts in
    let walk = c.into_iter-fact-iterator.ensures.into_iter_gives ∙ c.iter-fact-items.ensures in
    record {
      count = omega (arith, ap {B = ℕ} (λ fs. length (ids_otherwise policy c.args.state.now.dims c.args.state.now.facts later fs)) walk);
      few = omega (arith, ap {B = ℕ} length walk, c.requires.valid.few);
      each = kept-left g.P.WeightPolicy.weigh c.args.state.now c.facts.ensures.trees c.args.all.now c.requires _ walk;
    }

pub count_one-count-requires-clause-spread : goal.count_one-count-requires-clause-spread
count_one-count-requires-clause-spread g c =
    (left-first (IsKeptFact (policy_in g.P.WeightPolicy.weigh c.args.state.now) (width_of_all c.args.state.now.shape.measures) c.args.state.now.dims c.args.all.now.facts.facts c.args.all.now.groups) _ _ _ c.loop-fact.invariant.each c.in-Some.ensures.steps).0.spread

pub overflow_add-count : goal.overflow_add-count
overflow_add-count g c = omega (arith, c.loop-fact.invariant.few, ap {B = ℕ} length c.in-Some.ensures.steps, c.count_one-count.ensures.few)

pub loop-fact-preserved : goal.loop-fact-preserved
loop-fact-preserved g c =
    let policy = policy_in g.P.WeightPolicy.weigh c.args.state.now in
    let later = c.args.all.now.facts.facts in
    record {
      count = counted-next (lies_otherwise policy c.args.state.now.dims c.args.state.now.facts later) (λ f. f.id) _ _ _ _ _ _ c.loop-fact.invariant.count c.in-Some.ensures.steps (ap {B = ℕ} (λ one. c.loop-fact.count + one) c.count_one-count.ensures.count);
      few = omega (arith, c.loop-fact.invariant.few, ap {B = ℕ} length c.in-Some.ensures.steps, c.count_one-count.ensures.few);
      each = (left-first (IsKeptFact policy (width_of_all c.args.state.now.shape.measures) c.args.state.now.dims later c.args.all.now.groups) _ _ _ c.loop-fact.invariant.each c.in-Some.ensures.steps).1;
    }

pub returns : goal.returns
returns g c =
    counted-all (lies_otherwise (policy_in g.P.WeightPolicy.weigh c.args.state.now) c.args.state.now.dims c.args.state.now.facts c.args.all.now.facts.facts) (λ f. f.id) _ _ _ c.loop-fact.invariant.count c.in-None.ensures.steps.0
