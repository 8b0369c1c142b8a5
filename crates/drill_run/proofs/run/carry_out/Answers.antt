-- The facts come and then go, and the line tells what is left.
use Rattle.std.proofs.Common.{◌∙◌, ap}
use Rattle.drill_run.specs.Summary.{line_of_tally}
use Rattle.drill_run.proofs.Cubes.{drill-done}
use Rattle.drill_run.proofs.run.carry_out.Goals as goal

pub returns-clause-line : goal.returns-clause-line
returns-clause-line c =
    c.in_ok-summary.ensures
    ∙ ap (line_of_tally c.args.n) (drill-done c.args.n c.put_all.new.self c.withdraw_thirds.new.self c.in_ok-put_all.ensures.done c.in_ok-withdraw_thirds.ensures)

pub returns-clause-refused : goal.returns-clause-refused
returns-clause-refused c =
    c.refused_count.ensures ∙ ap (λ t. t.refused) (drill-done c.args.n c.put_all.new.self c.withdraw_thirds.new.self c.in_ok-put_all.ensures.done c.in_ok-withdraw_thirds.ensures)
