use Rattle.std.proofs.Common.{◌≡◌, ◌++◌, take}
use Rattle.script_text.specs.ReplySteps.{fields_text}
use Rattle.fact_fields.specs.FactRow.{value_fields}
use Rattle.fact_fields.proofs.fact_row.append_measures.Given as goal

-- the fields of the measures before this one are appended
abbrev pub invariant-loop-i : goal.invariant-loop-i
invariant-loop-i l = l.text.items ≡ l.fn.text.items ++ fields_text (value_fields (take l.i l.shape.measures) l.cols)
