-- The pairs before this one have their rows.
use Rattle.std.proofs.Common.{◌≡◌, filter_map, take}
use Rattle.fact_groups.specs.Groups.{group_at}
use Rattle.fact_records.specs.Shape.{width_of_all}
use Rattle.edit_plan.specs.Refreshing.{group_now}
use Rattle.cube_state.specs.State.{policy_in}
use Rattle.edit_plan.proofs.RowsKept.{rows_by}
use Rattle.edit_plan.proofs.storing.kept_rows.Given as goal

abbrev pub invariant-loop-id : goal.invariant-loop-id
invariant-loop-id g l =
    l.rows ≡ filter_map (rows_by (group_now l.regrouped.groups (group_at (policy_in g.P.WeightPolicy.weigh l.state) (width_of_all l.state.shape.measures) l.state.dims l.state.facts))) (take l.id-index l.pairs)
