-- All facts are left at first, and then one less each time.
use Rattle.std.proofs.Common.{◌∙◌}
use Rattle.fact_records.specs.Shape.{width_of_all}
use Rattle.cube_state.specs.State.{policy_in}
use Rattle.edit_plan.specs.Whole.{lies_otherwise, rows_among}
use Rattle.edit_plan.proofs.AllRefreshed.{IsKeptFact, gathered-next, gathered-none, left-first}
use Rattle.edit_plan.proofs.AllSeen.{kept-left}
use Rattle.edit_plan.proofs.whole.refreshed_among.Goals as goal

pub loop-fact-init : goal.loop-fact-init
loop-fact-init g c =
    let policy = policy_in g.P.WeightPolicy.weigh c.args.state.now in
    let later = c.args.all.now.facts.facts in
    let walk = c.into_iter-fact-iterator.ensures.into_iter_gives ∙ c.iter-fact-items.ensures in
    record {
      ids = gathered-none (lies_otherwise policy c.args.state.now.dims c.args.state.now.facts later) (λ f. f.id) later _ _ c.new.ensures walk;
      rows = gathered-none (lies_otherwise policy c.args.state.now.dims c.args.state.now.facts later) (rows_among policy c.args.state.now.dims later) later _ _ c.new-2.ensures walk;
      each = kept-left g.P.WeightPolicy.weigh c.args.state.now c.facts.ensures.trees c.args.all.now c.requires _ walk;
    }

pub refresh-requires-clause-spread : goal.refresh-requires-clause-spread
refresh-requires-clause-spread g c =
    (left-first (IsKeptFact (policy_in g.P.WeightPolicy.weigh c.args.state.now) (width_of_all c.args.state.now.shape.measures) c.args.state.now.dims c.args.all.now.facts.facts c.args.all.now.groups) _ _ _ c.loop-fact.invariant.each c.in-Some.ensures.steps).0.spread

pub loop-fact-preserved : goal.loop-fact-preserved
loop-fact-preserved g c =
    let policy = policy_in g.P.WeightPolicy.weigh c.args.state.now in
    let later = c.args.all.now.facts.facts in
    record {
      ids = gathered-next (lies_otherwise policy c.args.state.now.dims c.args.state.now.facts later) (λ f. f.id) _ _ _ _ _ _ c.loop-fact.invariant.ids c.in-Some.ensures.steps c.in_ok-refresh.ensures.ids;
      rows = gathered-next (lies_otherwise policy c.args.state.now.dims c.args.state.now.facts later) (rows_among policy c.args.state.now.dims later) _ _ _ _ _ _ c.loop-fact.invariant.rows c.in-Some.ensures.steps c.in_ok-refresh.ensures.rows;
      each = (left-first (IsKeptFact policy (width_of_all c.args.state.now.shape.measures) c.args.state.now.dims later c.args.all.now.groups) _ _ _ c.loop-fact.invariant.each c.in-Some.ensures.steps).1;
    }
