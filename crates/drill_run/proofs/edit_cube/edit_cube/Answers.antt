-- An edit refreshes no more facts than there are after it.
use Rattle.std.proofs.Common.{◌≡◌, length, ap, arith}
use Rattle.cube_model.specs.Allocation.{weigh_count}
use Rattle.cube_model.specs.Facts.{after}
use Rattle.schema_text.specs.Schema.{schema_policy}
use Rattle.drill_run.proofs.Counting.{refreshed-le}
use Rattle.drill_run.proofs.edit_cube.edit_cube.Goals as goal

pub returns-in-Ok-clause-few : goal.returns-in-Ok-clause-few
returns-in-Ok-clause-few g c =
    let cube = c.args.cube.now in
    let later = after c.args.edit.now cube.facts in
    let same : c.edit_and_count.new.self.facts ≡ later = ap (λ v. v.facts) c.in-Ok.ensures.facts in
    let size = refreshed-le (schema_policy weigh_count cube.schema) cube.schema.dims cube.facts later in
    omega (arith, c.in-Ok.ensures.refreshed, size, c.facts.ensures.valid.few, ap length same)
