-- The rows are those of the drill's schema.
use Rattle.std.proofs.Common.{◌∙◌, ap, refl}
use Rattle.cube_model.specs.Allocation.{row_count, weigh_count}
use Rattle.drill_run.specs.Summary.{drill_rows}
use Rattle.drill_run.proofs.Cubes.{rows-are}
use Rattle.drill_run.proofs.drill.Drill.row_count.Goals as goal

pub returns : goal.returns
returns c = c.row_count.ensures.rows ∙ ap row_count (rows-are (λ _. weigh_count) c.self.inside.cube c.self.invariant refl) ∙ ap (λ v. row_count (drill_rows v.facts)) c.self.view_is
