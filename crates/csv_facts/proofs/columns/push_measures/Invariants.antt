use Rattle.std.proofs.Common.{map, take}
use Rattle.csv_facts.specs.RecordList.{IsLonger}
use Rattle.csv_facts.proofs.columns.push_measures.Given as goal

-- the names of the measures before this one are appended
abbrev pub invariant-loop-i : goal.invariant-loop-i
invariant-loop-i l = IsLonger l.initial.row (map (λ m. m.name) (take l.i l.shape.measures)) l.row
