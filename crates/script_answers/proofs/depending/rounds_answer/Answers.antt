-- The facts have a value for each column but the count.
use Rattle.std.proofs.Common.{◌≡◌, ◌+◌, ◌∙◌, ap, arith, subst, sym}
use Rattle.fact_records.specs.Shape.{IsShape, ShapeValue, width_of_all}
use Rattle.iter_alloc.specs.Portions.{AreValued}
use Rattle.schema_text.specs.Schema.{shape_of}
use Rattle.script_answers.proofs.Placing.{valid-valued}
use Rattle.script_answers.proofs.depending.rounds_answer.Goals as goal

pub iterate-requires-clause-values : goal.iterate-requires-clause-values
iterate-requires-clause-values c =
    let schema = c.args.schema.now in
    let counted : c.columns-columns.result ≡ width_of_all schema.measures + 1 = omega (arith, c.columns-columns.ensures.columns ∙ ap (λ (s : ShapeValue). 1 + width_of_all s.measures) c.shape.ensures.shape) in
    subst (λ n. AreValued n c.args.facts.now.facts) (sym counted)
    (valid-valued (shape_of schema) schema.dims c.args.facts.now.facts c.requires.facts (subst IsShape c.shape.ensures.shape c.columns-columns.ensures.shape))
