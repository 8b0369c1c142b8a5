-- The numbers before this one.
use Rattle.iter_alloc.proofs.claims.places.Given as goal
use Rattle.std.proofs.Common.{◌≡◌}
use Rattle.std.specs.List.{range_with_len}

abbrev pub invariant-loop-i : goal.invariant-loop-i
invariant-loop-i l = l.places.items ≡ range_with_len 0 l.i
