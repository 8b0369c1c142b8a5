use Rattle.std.proofs.Common.{◌≡◌, take}
use Rattle.fact_keeper.proofs.entry.copy_entries.Given as goal

-- the entries so far are copied
abbrev pub invariant-entries : goal.invariant-entries
invariant-entries g l = l.copies.items ≡ take l.entry-index l.items
