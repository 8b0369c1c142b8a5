use Rattle.std.proofs.Common.{◌∷◌, length, take}
use Rattle.world_law.specs.Choices.{AddsWorlds, IsBoundedByMass}
use Rattle.world_law.proofs.walk.+walk.Given as goal

-- the choices that are left become fewer
abbrev pub decreases-walk : goal.decreases-walk
decreases-walk l = length l.choices.now

-- the worlds of the rows so far were added
abbrev pub invariant-loop-n : goal.invariant-loop-n
invariant-loop-n l = AddsWorlds (take l.n-index l.n-items ∷ l.rest) l.weight l.sum l.fn.found l.found × IsBoundedByMass l.found
