use Rattle.std.proofs.Common.{◌≡◌, ◌++◌, take}
use Rattle.fact_records.specs.Shape.{values_of}
use Rattle.fact_fields.specs.FactRow.{value_text}
use Rattle.fact_fields.proofs.fact_row.append_values.Given as goal

-- the values before this one are appended
abbrev pub invariant-loop-i : goal.invariant-loop-i
invariant-loop-i l = l.text.items ≡ l.fn.text.items ++ value_text (take l.i (values_of l.measure l.cols))
