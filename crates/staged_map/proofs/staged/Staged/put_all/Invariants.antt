-- What is left to be put makes of what the map holds what all entries make of what it held.
use Rattle.std.proofs.Common.{length}
use Rattle.staged_map.proofs.Entries.{PutsLeft}
use Rattle.staged_map.proofs.staged.Staged.put_all.Given as goal

abbrev pub invariant-loop-key : goal.invariant-loop-key
invariant-loop-key g l = PutsLeft l.initial.self l.self l.initial.entries.items l.entries.items

-- each turn puts an entry
abbrev pub decreases-loop-key : goal.decreases-loop-key
decreases-loop-key g l = length l.entries.items
