use Rattle.std.proofs.Common.{◌≡◌, ◌+◌, ◌≤◌, ◌++◌, take, drop}
use Rattle.std.specs.Vec.{vec_capacity}
use Rattle.fact_records.proofs.moves.take_out.Given as goal

-- so many items are out at the place, and the room is still there
abbrev pub invariant-loop : goal.invariant-loop
invariant-loop g l =
    (l.list.items ≡ take l.at l.initial.list.items ++ drop (l.at + l.counter) l.initial.list.items) × (vec_capacity l.initial.list ≤ vec_capacity l.list)
