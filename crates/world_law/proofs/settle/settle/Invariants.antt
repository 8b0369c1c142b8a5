use Rattle.world_law.specs.Placed.{choices_of}
use Rattle.world_law.proofs.Settling.{Settling}
use Rattle.world_law.proofs.settle.settle.Given as goal

-- the facts so far are settled
abbrev pub invariant-loop-item : goal.invariant-loop-item
invariant-loop-item l = Settling (choices_of l.space l.r l.column l.placed) l.item-index l.weight l.sum l.several
