use Rattle.fact_records.proofs.ValueFields.{Searches}
use Rattle.fact_records.proofs.value_reader.some_wrong_number.Given as goal

-- no field before this one is a wrong number
abbrev pub invariant-loop-i : goal.invariant-loop-i
invariant-loop-i g l = Searches l.shape l.first (g.F.Fields.left l.fn.fields) l.i (g.F.Fields.left l.fields)
