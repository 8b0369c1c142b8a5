-- The sum so far and that of the places behind are all.
use Rattle.iter_alloc.proofs.shares.sum_of.Given as goal
use Rattle.iter_alloc.specs.Forest.{at}
use Rattle.iter_alloc.specs.Places.{levels_in}
use Rattle.std.proofs.Common.{◌≡◌, ◌+◌, drop}
use Rattle.std.specs.List.{sum_by}

abbrev pub invariant-loop-i : goal.invariant-loop-i
invariant-loop-i l = l.sum + sum_by (at (levels_in l.places)) (drop l.i-index l.own) ≡ sum_by (at (levels_in l.places)) l.own
