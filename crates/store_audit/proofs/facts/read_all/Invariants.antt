-- The facts before this one are read.
use Rattle.store_audit.proofs.Reading.{AreRead}
use Rattle.store_audit.proofs.facts.read_all.Given as goal

abbrev pub invariant-loop-place : goal.invariant-loop-place
invariant-loop-place l = AreRead l.shape l.space l.kept l.place l.before l.facts.spare l.facts.facts
