-- Each field that is not wrong leaves the question to those behind it.
use Rattle.std.proofs.Common.{◌<◌, ◌≤◌, ◌∙◌, arith, length, sym}
use Rattle.fact_records.proofs.ValueFields.{Searches-all, Searches-next, Searches-step}
use Rattle.fact_records.proofs.value_reader.some_wrong_number.Goals as goal

pub returns-then-is_wrong_number : goal.returns-then-is_wrong_number
returns-then-is_wrong_number g c =
    let left = g.F.Fields.left in
    let step =
    Searches-step c.args.shape.now c.args.first (left c.args.fields.now) c.loop-i.i (left c.loop-i.fields) c.measure.result.now c.next_field.result.now (left c.next_field.new.self) c.loop-i.invariant c.next_field.ensures c.measure.ensures.measure in
    sym (rw (sym c.is_wrong_number.ensures ∙ c.if-is_wrong_number.true) at step)

pub loop-i-preserved : goal.loop-i-preserved
loop-i-preserved g c =
    let left = g.F.Fields.left in
    let within : c.loop-i.i < length c.args.shape.now.measures = omega arith in
    Searches-next c.args.shape.now c.args.first (left c.args.fields.now) c.loop-i.i (left c.loop-i.fields) c.measure.result.now c.next_field.result.now (left c.next_field.new.self) c.loop-i.invariant c.next_field.ensures within c.measure.ensures.measure
    (sym c.is_wrong_number.ensures ∙ c.if-is_wrong_number.false)

pub returns : goal.returns
returns g c =
    let left = g.F.Fields.left in
    let end : length c.args.shape.now.measures ≤ c.loop-i.i = omega arith in
    Searches-all c.args.shape.now c.args.first (left c.args.fields.now) c.loop-i.i (left c.loop-i.fields) c.loop-i.invariant end
