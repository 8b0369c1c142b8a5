-- The name of a measure more is appended.
use Rattle.std.proofs.Common.{◌∙◌}
use Rattle.fact_records.specs.declared.shape.Measure.{Measure}
use Rattle.fact_fields.proofs.ValuesWritten.{taken-next}
use Rattle.csv_facts.proofs.FieldsLeft.{IsLonger-more}
use Rattle.csv_facts.proofs.columns.push_measures.Goals as goal

pub loop-i-preserved : goal.loop-i-preserved
loop-i-preserved c =
    let e = c.in_ok-push_field.ensures in
    IsLonger-more _ _ _ _ _ _ c.measure.result.now.name c.loop-i.invariant e.fields e.partial (c.as_bytes.ensures.value ∙ c.text.ensures.same)
    (taken-next (λ (m : Measure). m.name) c.args.shape.now.measures c.loop-i.i c.measure.result.now c.measure.ensures.measure)
