-- A record more is read, or it is the first that cannot be.
use Rattle.std.proofs.Common.{sym}
use Rattle.csv_facts.proofs.FactsRead.{IsReading-end, IsReading-next, IsReading-start, shorter}
use Rattle.csv_facts.proofs.read.read_records.Goals as goal

pub loop-facts-init : goal.loop-facts-init
loop-facts-init c = IsReading-start c.args.s.now c.args.records.now c.new-facts.result c.new-facts.ensures

pub loop-facts-preserved : goal.loop-facts-preserved
loop-facts-preserved c =
    let first = rw c.if-branch.true at c.in_ok-next.ensures in
    IsReading-next _ _ _ _ _ _ _ _ c.loop-facts.invariant first c.in-Ok.ensures.fact c.in-Ok.ensures.within c.in_ok-push-in-Ok.ensures.ok

pub loop-facts-smaller : goal.loop-facts-smaller
loop-facts-smaller c = shorter _ _ _ (rw c.if-branch.true at c.in_ok-next.ensures)

pub returns-clause-facts : goal.returns-clause-facts
returns-clause-facts c = sym (IsReading-end _ _ _ _ c.loop-facts.invariant (rw c.if-branch.false at c.in_ok-next.ensures))

pub returns-clause-within : goal.returns-clause-within
returns-clause-within c = c.loop-facts.invariant.within
