use Rattle.std.specs.Prelude.{◌≡◌, All, length}
use Rattle.world_law.specs.Placed.{IsPlacedFor}
use Rattle.library_tests.proofs.ranges.place_all.Given as goal

-- the facts so far are placed
abbrev pub invariant-loop-fact : goal.invariant-loop-fact
invariant-loop-fact l = All (IsPlacedFor l.space l.column) l.placed.items × (length l.placed.items ≡ l.fact-index)
