-- The conditions on the kind stand between the others, and it has a column for each outcome.
use Rattle.std.proofs.Common.{sym, ◌∙◌, arith, ap, length-drop}
use Rattle.std.proofs.lemmas.Result.{err_from_is_err_and}
use Rattle.text_lines.specs.Text.{fields_of}
use Rattle.fact_records.specs.declared.shape.Kind.{Kind}
use Rattle.fact_records.specs.Shape.{width_of}
use Rattle.schema_text.proofs.MeasuresMore.{IsCause-kind, width_of_all-next}
use Rattle.schema_text.proofs.measures.take_parts.Goals as goal

pub returns-in_err-kind-clause-refused : goal.returns-in_err-kind-clause-refused
returns-in_err-kind-clause-refused c =
    let p = err_from_is_err_and c.from_residual.result c.from_residual.ensures.1 in
    rw (p.1, p.2) (IsCause-kind c.args.measures.now.items (fields_of c.args.line.now) c.in_err-kind.field-0.0 (rw (c.field_at-name.ensures, c.deref.ensures.value) at (sym c.is_wrong_measure.ensures ∙ c.if-is_wrong_measure.false)) c.in_err-kind.ensures.refused)

pub returns-clause-width : goal.returns-clause-width
returns-clause-width c =
    omega (arith, width_of_all-next _ _ _ _ c.requires.width c.in_ok-push_measure.ensures, ap (λ (k : Kind). width_of k) c.in_ok-kind.ensures.read, length-drop 3 (fields_of c.args.line.now))
