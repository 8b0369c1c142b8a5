use Rattle.csv_facts.proofs.RowsWritten.{IsPartWritten}
use Rattle.csv_facts.proofs.write.write_fact_rows.Given as goal

-- the records of some facts are written, and the others are left
abbrev pub invariant-loop-fact : goal.invariant-loop-fact
invariant-loop-fact l = IsPartWritten l.s l.initial.out l.facts.facts l.out l.fact-iterator
