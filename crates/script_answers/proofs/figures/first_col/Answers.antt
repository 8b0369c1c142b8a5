-- The measure at the place has its columns among those of all.
use Rattle.std.proofs.Common.{◌≡◌, ◌∙◌, Some, ap, sym}
use Rattle.std.specs.Prelude.{slice_get}
use Rattle.fact_records.specs.Shape.{ShapeValue}
use Rattle.script_answers.proofs.Measures.{first_col-within}
use Rattle.script_answers.proofs.figures.first_col.Goals as goal

pub returns-clause-within : goal.returns-clause-within
returns-clause-within c =
    let at : slice_get c.args.schema.now.measures c.args.measure ≡ Some c.measure.result.now = ap (λ (s : ShapeValue). slice_get s.measures c.args.measure) (sym c.shape.ensures.shape) ∙ c.measure.ensures.measure in
    first_col-within c.args.schema.now.measures c.args.measure c.measure.result.now c.shape.ensures.schema.shape.measures at
