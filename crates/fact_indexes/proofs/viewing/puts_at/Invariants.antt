-- The changes of the codes before this one.
use Rattle.std.proofs.Common.{◌≡◌, take}
use Rattle.fact_indexes.specs.ViewChanges.{puts_at}
use Rattle.fact_indexes.proofs.viewing.puts_at.Given as goal

abbrev pub invariant-loop-code : goal.invariant-loop-code
invariant-loop-code l = l.changes.items ≡ puts_at l.space l.groups (take l.code-index l.codes)
