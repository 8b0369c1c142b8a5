use Rattle.std.proofs.Common.{take}
use Rattle.fact_fields.specs.FactRow.{value_fields}
use Rattle.csv_facts.specs.RecordList.{IsLonger}
use Rattle.csv_facts.proofs.fact_row.push_values.Given as goal

-- the fields of the measures before this one are appended
abbrev pub invariant-loop-i : goal.invariant-loop-i
invariant-loop-i l = IsLonger l.initial.row (value_fields (take l.i l.shape.measures) l.cols) l.row
