use Rattle.std.proofs.Common.{◌≡◌, ◌++◌, take}
use Rattle.std.specs.List.{flat_map}
use Rattle.schema_text.specs.SchemaText.{measure_line}
use Rattle.schema_text.proofs.write.append_measures.Given as goal

-- the lines of the measures before this one are appended
abbrev pub invariant-loop-i : goal.invariant-loop-i
invariant-loop-i l = l.out.items ≡ l.initial.out.items ++ flat_map measure_line (take l.i l.shape.measures)
