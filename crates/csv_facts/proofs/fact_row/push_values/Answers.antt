-- The field of a measure more is appended.
use Rattle.std.proofs.Common.{◌∙◌, ◌++◌, ◌≤◌, ap, length, List, ℕ}
use Rattle.fact_records.specs.declared.shape.Measure.{Measure}
use Rattle.fact_records.specs.Shape.{IsWithin, values_of, width_of}
use Rattle.fact_records.proofs.Columns.{AreMeasures-within}
use Rattle.fact_fields.specs.FactRow.{value_text}
use Rattle.fact_fields.proofs.ValuesWritten.{All-at, taken-next}
use Rattle.csv_facts.proofs.FieldsLeft.{IsLonger-more}
use Rattle.csv_facts.proofs.fact_row.push_values.Goals as goal

pub append_values-requires-clause-within : goal.append_values-requires-clause-within
append_values-requires-clause-within c =
    let each = AreMeasures-within (length c.args.cols) c.args.shape.now.measures c.len-i-end.ensures.shape.measures c.requires.columns in
    All-at (IsWithin (length c.args.cols)) c.args.shape.now.measures c.loop-i.i c.measure.result.now each c.measure.ensures.measure

pub append_values-requires-clause-some : goal.append_values-requires-clause-some
append_values-requires-clause-some c =
    All-at (λ (m : Measure). 1 ≤ width_of m.kind) c.args.shape.now.measures c.loop-i.i c.measure.result.now c.len-i-end.ensures.shape.measures.some c.measure.ensures.measure

pub loop-i-preserved : goal.loop-i-preserved
loop-i-preserved c =
    let e = c.in_ok-push_field.ensures in
    let text = value_text (values_of c.measure.result.now c.args.cols) in
    let field = c.deref.ensures.value ∙ c.in_ok-append_values.ensures ∙ ap (λ (t : List ℕ). t ++ text) c.clear.ensures.items in
    IsLonger-more _ _ _ _ _ _ text c.loop-i.invariant e.fields e.partial field
    (taken-next (λ (m : Measure). value_text (values_of m c.args.cols)) c.args.shape.now.measures c.loop-i.i c.measure.result.now c.measure.ensures.measure)
