use Rattle.std.proofs.Common.{length}
use Rattle.csv_facts.proofs.FactsRead.{IsReading}
use Rattle.csv_facts.proofs.read.read_records.Given as goal

-- the records before are read
abbrev pub invariant-loop-facts : goal.invariant-loop-facts
invariant-loop-facts l = IsReading l.s l.initial.records l.facts l.records

-- a record less is left
abbrev pub decreases-loop-facts : goal.decreases-loop-facts
decreases-loop-facts l = length l.records
