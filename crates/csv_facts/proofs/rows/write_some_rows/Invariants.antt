use Rattle.std.proofs.Common.{[], map, take}
use Rattle.csv_facts.specs.ExtendedRow.{row_record, with_rows}
use Rattle.csv_facts.specs.RecordList.{Writes}
use Rattle.csv_facts.proofs.rows.write_some_rows.Given as goal

-- the records of the rows before this one are written
abbrev pub invariant-loop-placed : goal.invariant-loop-placed
invariant-loop-placed l = Writes l.initial.out (map (row_record l.s (with_rows l.fact (record { den = l.den; rows = [] }))) (take l.placed-index l.rows)) l.out
