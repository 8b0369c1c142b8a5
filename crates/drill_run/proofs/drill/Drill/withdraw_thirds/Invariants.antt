use Rattle.std.proofs.Common.{◌≡◌, ◌+◌, ◌*◌, ◌≤◌}
use Rattle.cube_model.specs.Limits.{MAX_FACTS}
use Rattle.drill_run.specs.Doing.{edit_all}
use Rattle.drill_run.specs.Edits.{thirds}
use Rattle.drill_run.specs.Space.{drill_schema}
use Rattle.drill_run.proofs.drill.Drill.withdraw_thirds.Given as goal

-- of the earlier ids those are gone that 3 divides
abbrev pub invariant-loop-earlier : goal.invariant-loop-earlier
invariant-loop-earlier l = record {
  done : l.self ≡ edit_all drill_schema (thirds l.earlier) l.fn.self;
  few : l.self.refreshed ≤ (l.fn.n + l.earlier) * MAX_FACTS;
  few_refused : l.self.refused ≤ l.fn.n + l.earlier;
}
