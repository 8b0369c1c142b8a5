-- The rows before this place are alike.
use Rattle.std.proofs.Common.{map}
use Rattle.edit_plan.specs.Plan.{kept_rows}
use Rattle.cube_state.specs.State.{rows_in}
use Rattle.store_audit.proofs.Comparing.{AreAlike}
use Rattle.store_audit.proofs.rows.check_rows.Given as goal

abbrev pub invariant-loop-fact : goal.invariant-loop-fact
invariant-loop-fact g l = AreAlike l.state.facts l.kept (map kept_rows (rows_in g.P.WeightPolicy.weigh l.state)) l.place l.fact-iterator
