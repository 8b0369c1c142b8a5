use Rattle.std.proofs.Common.{take}
use Rattle.csv_facts.specs.RecordList.{IsLonger}
use Rattle.csv_facts.proofs.columns.push_names.Given as goal

-- the names before this one are appended
abbrev pub invariant-loop-name : goal.invariant-loop-name
invariant-loop-name l = IsLonger l.initial.row (take l.name-index l.names) l.row
