-- The depths of the dimensions before this one are there.
use Rattle.std.proofs.Common.{◌≡◌, ◌++◌, drop}
use Rattle.cube_state.specs.Tables.{depths_under}
use Rattle.cube_state.proofs.tabling.depths_under.Given as goal

abbrev pub invariant-loop-d : goal.invariant-loop-d
invariant-loop-d l = depths_under l.space l.depths l.r ≡ l.cuts.items ++ depths_under (drop l.d l.space) (drop l.d l.depths) (drop l.d l.r)
