use Rattle.std.proofs.Common.{◌≡◌, take}
use Rattle.feed_run.proofs.copies.copy_facts.Given as goal

-- the facts so far are copied
abbrev pub invariant-facts : goal.invariant-facts
invariant-facts l = l.copies.items ≡ take l.fact-index l.items
