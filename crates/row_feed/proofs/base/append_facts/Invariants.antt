use Rattle.row_feed.proofs.Appended.{IsPartAppended}
use Rattle.row_feed.proofs.base.append_facts.Given as goal

-- the lines of some facts are appended, and the others are left
abbrev pub invariant-loop-fact : goal.invariant-loop-fact
invariant-loop-fact l = IsPartAppended l.schema l.initial.text.items l.facts.facts l.text.items l.fact-iterator
