-- The terms have the columns of all measures.
use Rattle.std.proofs.Common.{◌+◌, ◌≤◌, subst, sym}
use Rattle.std.specs.Prelude.{IfSome, slice_get}
use Rattle.fact_records.specs.Shape.{ShapeValue, width_of}
use Rattle.script_answers.proofs.Measures.{columns-within}
use Rattle.script_answers.proofs.figures.pool_answer.Goals as goal

pub pool-requires-clause-columns : goal.pool-requires-clause-columns
pool-requires-clause-columns c =
    subst (λ (s : ShapeValue). IfSome (slice_get s.measures c.args.measure) (λ m. m.first_col + width_of m.kind ≤ c.args.terms.now.columns)) (sym c.shape.ensures.shape)
    (columns-within c.args.schema.now.measures c.args.measure c.args.terms.now.columns c.shape.ensures.schema.shape.measures c.requires.terms.columns)
