-- Of the facts before this one those that are new or whose allocation changed are counted.
use Rattle.std.proofs.Common.{◌≡◌, ◌+◌, ◌≤◌, length}
use Rattle.std.specs.Prelude.{All}
use Rattle.cube_model.specs.Limits.{MAX_FACTS}
use Rattle.fact_records.specs.Shape.{width_of_all}
use Rattle.cube_state.specs.State.{policy_in}
use Rattle.edit_plan.specs.Whole.{ids_otherwise}
use Rattle.edit_plan.proofs.AllRefreshed.{IsKeptFact}
use Rattle.edit_plan.proofs.whole.count_all.Given as goal

abbrev pub invariant-loop-fact : goal.invariant-loop-fact
invariant-loop-fact g l = record {
  count : l.count + length (ids_otherwise (policy_in g.P.WeightPolicy.weigh l.state) l.state.dims l.state.facts l.all.facts.facts l.fact-iterator) ≡ length (ids_otherwise (policy_in g.P.WeightPolicy.weigh l.state) l.state.dims l.state.facts l.all.facts.facts l.all.facts.facts);
  few : l.count + length l.fact-iterator ≤ MAX_FACTS;
  each : All (IsKeptFact (policy_in g.P.WeightPolicy.weigh l.state) (width_of_all l.state.shape.measures) l.state.dims l.all.facts.facts l.all.groups) l.fact-iterator;
}
