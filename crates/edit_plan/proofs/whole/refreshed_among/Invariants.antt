-- Of the facts before this one those that are new or whose allocation changed are held.
use Rattle.std.proofs.Common.{◌≡◌, ◌++◌}
use Rattle.std.specs.Prelude.{All}
use Rattle.fact_records.specs.Shape.{width_of_all}
use Rattle.cube_state.specs.State.{policy_in}
use Rattle.edit_plan.specs.Whole.{ids_otherwise, rows_otherwise}
use Rattle.edit_plan.proofs.AllRefreshed.{IsKeptFact}
use Rattle.edit_plan.proofs.whole.refreshed_among.Given as goal

abbrev pub invariant-loop-fact : goal.invariant-loop-fact
invariant-loop-fact g l = record {
  ids : l.refreshed.ids ++ ids_otherwise (policy_in g.P.WeightPolicy.weigh l.state) l.state.dims l.state.facts l.all.facts.facts l.fact-iterator ≡ ids_otherwise (policy_in g.P.WeightPolicy.weigh l.state) l.state.dims l.state.facts l.all.facts.facts l.all.facts.facts;
  rows : l.refreshed.rows ++ rows_otherwise (policy_in g.P.WeightPolicy.weigh l.state) l.state.dims l.state.facts l.all.facts.facts l.fact-iterator ≡ rows_otherwise (policy_in g.P.WeightPolicy.weigh l.state) l.state.dims l.state.facts l.all.facts.facts l.all.facts.facts;
  each : All (IsKeptFact (policy_in g.P.WeightPolicy.weigh l.state) (width_of_all l.state.shape.measures) l.state.dims l.all.facts.facts l.all.groups) l.fact-iterator;
}
