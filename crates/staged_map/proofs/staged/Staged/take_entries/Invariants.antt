-- What was moved out and what is left are all entries, and there is room for what is left.
use Rattle.std.proofs.Common.{◌+◌, ◌≤◌, length}
use Rattle.std.specs.Vec.{vec_capacity, vec_len}
use Rattle.staged_map.proofs.Taking.{Taking}
use Rattle.staged_map.proofs.staged.Staged.take_entries.Given as goal

abbrev pub invariant-loop-key : goal.invariant-loop-key
invariant-loop-key g l =
    Taking l.initial.self-inside.places.entries l.self-inside.places.entries l.entries.items
    × (vec_len l.entries + length l.self-inside.places.entries ≤ vec_capacity l.entries)

-- each turn moves a place out
abbrev pub decreases-loop-key : goal.decreases-loop-key
decreases-loop-key g l = length l.self-inside.places.entries
