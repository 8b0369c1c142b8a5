-- Each field gives its values, or is refused with the code that comes first.
use Rattle.std.proofs.Common.{◌<◌, ◌≤◌, arith, length}
use Rattle.fact_records.proofs.AcceptedValues.{cols_given-accepted}
use Rattle.fact_records.proofs.ValueFields.{ReadsValues-all, ReadsValues-next, ReadsValues-place, ReadsValues-refused}
use Rattle.fact_records.proofs.value_reader.read_values.Goals as goal

pub read_value-requires-clause-place : goal.read_value-requires-clause-place
read_value-requires-clause-place g c = ReadsValues-place c.args.shape.now (g.F.Fields.left c.args.fields.now) c.loop-i.i (g.F.Fields.left c.loop-i.fields) c.loop-i.cols c.loop-i.invariant

pub returns-then-some_wrong_number-clause-values : goal.returns-then-some_wrong_number-clause-values
returns-then-some_wrong_number-clause-values g c =
    let left = g.F.Fields.left in
    let within : c.loop-i.i < length c.args.shape.now.measures = omega arith in
    let refused =
    ReadsValues-refused c.args.shape.now (left c.args.fields.now) c.loop-i.i (left c.loop-i.fields) c.loop-i.cols c.next_field.result.now (left c.next_field.new.self) c.in-Err.code c.some_wrong_number.result c.loop-i.invariant c.next_field.ensures within
    c.in-Err.ensures.refused c.some_wrong_number.ensures in
    rw c.if-some_wrong_number.true at refused

pub returns-in-Err-clause-values : goal.returns-in-Err-clause-values
returns-in-Err-clause-values g c =
    let left = g.F.Fields.left in
    let within : c.loop-i.i < length c.args.shape.now.measures = omega arith in
    let refused =
    ReadsValues-refused c.args.shape.now (left c.args.fields.now) c.loop-i.i (left c.loop-i.fields) c.loop-i.cols c.next_field.result.now (left c.next_field.new.self) c.in-Err.code c.some_wrong_number.result c.loop-i.invariant c.next_field.ensures within
    c.in-Err.ensures.refused c.some_wrong_number.ensures in
    rw c.if-some_wrong_number.false at refused

pub loop-i-preserved : goal.loop-i-preserved
loop-i-preserved g c =
    let left = g.F.Fields.left in
    let within : c.loop-i.i < length c.args.shape.now.measures = omega arith in
    ReadsValues-next c.args.shape.now (left c.args.fields.now) c.loop-i.i (left c.loop-i.fields) c.loop-i.cols c.next_field.result.now (left c.next_field.new.self) c.read_value.new.into c.loop-i.invariant c.next_field.ensures within c.in_default.ensures.read

pub returns-clause-values : goal.returns-clause-values
returns-clause-values g c =
    let left = g.F.Fields.left in
    let end : length c.args.shape.now.measures ≤ c.loop-i.i = omega arith in
    ReadsValues-all c.args.shape.now (left c.args.fields.now) c.loop-i.i (left c.loop-i.fields) c.loop-i.cols c.loop-i.invariant end

pub returns-clause-accepted : goal.returns-clause-accepted
returns-clause-accepted g c =
    let left = g.F.Fields.left in
    let end : length c.args.shape.now.measures ≤ c.loop-i.i = omega arith in
    cols_given-accepted c.args.shape.now (left c.args.fields.now) c.loop-i.cols c.len-i-end.ensures.shape.measures.order c.requires
    (ReadsValues-all c.args.shape.now (left c.args.fields.now) c.loop-i.i (left c.loop-i.fields) c.loop-i.cols c.loop-i.invariant end)
