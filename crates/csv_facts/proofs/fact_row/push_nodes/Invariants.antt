use Rattle.std.proofs.Common.{take}
use Rattle.script_text.specs.Reply.{names_of}
use Rattle.csv_facts.specs.RecordList.{IsLonger}
use Rattle.csv_facts.proofs.fact_row.push_nodes.Given as goal

-- the names of the nodes before this one are appended
abbrev pub invariant-loop-d : goal.invariant-loop-d
invariant-loop-d l = IsLonger l.initial.row (take l.d (names_of l.space l.region)) l.row
