use Rattle.std.proofs.Common.{◌≡◌, take}
use Rattle.feed_run.proofs.copies.copy_rows.Given as goal

-- the entries so far are copied
abbrev pub invariant-rows : goal.invariant-rows
invariant-rows l = l.copies.items ≡ take l.entry-index l.items
