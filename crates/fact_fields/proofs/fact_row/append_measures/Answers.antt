-- The field of a measure more is appended.
use Rattle.std.proofs.Common.{◌≤◌, length}
use Rattle.fact_records.specs.declared.shape.Measure.{Measure}
use Rattle.fact_records.specs.Shape.{IsWithin, width_of}
use Rattle.fact_records.proofs.Columns.{AreMeasures-within}
use Rattle.fact_fields.proofs.ValuesWritten.{All-at, measures-more}
use Rattle.fact_fields.proofs.fact_row.append_measures.Goals as goal

pub append_values-requires-clause-within : goal.append_values-requires-clause-within
append_values-requires-clause-within c =
    let each = AreMeasures-within (length c.args.cols) c.args.shape.now.measures c.len-i-end.ensures.shape.measures c.requires in
    All-at (IsWithin (length c.args.cols)) c.args.shape.now.measures c.loop-i.i c.measure.result.now each c.measure.ensures.measure

pub append_values-requires-clause-some : goal.append_values-requires-clause-some
append_values-requires-clause-some c =
    All-at (λ (m : Measure). 1 ≤ width_of m.kind) c.args.shape.now.measures c.loop-i.i c.measure.result.now c.len-i-end.ensures.shape.measures.some c.measure.ensures.measure

pub loop-i-preserved : goal.loop-i-preserved
loop-i-preserved c =
    measures-more c.args.shape.now.measures c.args.cols c.loop-i.i c.measure.result.now _ _ _ _ c.measure.ensures.measure c.loop-i.invariant c.in_ok-push.ensures.items c.in_ok-append_values.ensures
