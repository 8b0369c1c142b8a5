-- The nodes of the dimensions before this one.
use Rattle.std.proofs.Common.{◌≡◌, take}
use Rattle.edit_plan.proofs.storing.nodes_of.Given as goal

abbrev pub invariant-loop-d : goal.invariant-loop-d
invariant-loop-d l = l.nodes ≡ take l.d l.region
