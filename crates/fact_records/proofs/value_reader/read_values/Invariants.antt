use Rattle.fact_records.proofs.ValueFields.{ReadsValues}
use Rattle.fact_records.proofs.value_reader.read_values.Given as goal

-- the fields of the measures before this one are read
abbrev pub invariant-loop-i : goal.invariant-loop-i
invariant-loop-i g l = ReadsValues l.shape (g.F.Fields.left l.fn.fields) l.i (g.F.Fields.left l.fields) l.cols
