-- The facts before this one are put.
use Rattle.fact_records.proofs.AllPut.{ArePut}
use Rattle.fact_records.proofs.list_copies.put_old.Given as goal

abbrev pub invariant-loop-fact : goal.invariant-loop-fact
invariant-loop-fact l = ArePut l.facts.facts l.initial.all.spare l.all.spare l.all.facts l.fact-iterator
