use Rattle.std.proofs.Common.{◌≡◌, ◌*◌, ◌≤◌}
use Rattle.cube_model.specs.Limits.{MAX_FACTS}
use Rattle.drill_run.specs.Doing.{blank_tally, edit_all}
use Rattle.drill_run.specs.Edits.{first_puts}
use Rattle.drill_run.specs.Numbers.{drawn_state}
use Rattle.drill_run.specs.Space.{drill_schema}
use Rattle.drill_run.proofs.drill.Drill.put_all.Given as goal

-- the earlier facts are put, by four draws each
abbrev pub invariant-loop-earlier : goal.invariant-loop-earlier
invariant-loop-earlier l = record {
  draws : l.draws ≡ drawn_state l.fn.n (4 * l.earlier);
  done : l.self ≡ edit_all drill_schema (first_puts l.fn.n l.earlier) blank_tally;
  few : l.self.refreshed ≤ l.earlier * MAX_FACTS;
  few_refused : l.self.refused ≤ l.earlier;
}
