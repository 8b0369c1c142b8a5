-- The counts are those of the edit.
use Rattle.std.proofs.Common.{◌∙◌, ap, sym}
use Rattle.cube_model.specs.Allocation.{weigh_count}
use Rattle.drill_run.specs.Doing.{edit_once}
use Rattle.drill_run.specs.Space.{drill_schema}
use Rattle.drill_run.proofs.Counting.{edit-counted}
use Rattle.drill_run.proofs.Lying.{weighs-counts}
use Rattle.drill_run.proofs.drill.Drill.edit.Goals as goal

pub returns-in-Some-clause-done : goal.returns-in-Some-clause-done
returns-in-Some-clause-done c =
    let was = c.self.inside in
    edit-counted (λ _. weigh_count) was.cube c.args.edit.now was.refreshed was.refused drill_schema c.edit_cube.new.cube _ c.self.invariant (sym weighs-counts) (sym c.in-Some.is ∙ c.in_ok-refreshed.ensures.refreshed) c.in_ok-refreshed.ensures.cube
    ∙ ap (edit_once drill_schema c.args.edit.now) c.self.view_is

pub returns-in-None-clause-done : goal.returns-in-None-clause-done
returns-in-None-clause-done c =
    let was = c.self.inside in
    edit-counted (λ _. weigh_count) was.cube c.args.edit.now was.refreshed was.refused drill_schema c.edit_cube.new.cube _ c.self.invariant (sym weighs-counts) (sym c.in-None.is ∙ c.in_ok-refreshed.ensures.refreshed) c.in_ok-refreshed.ensures.cube
    ∙ ap (edit_once drill_schema c.args.edit.now) c.self.view_is
