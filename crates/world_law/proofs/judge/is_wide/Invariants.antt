use Rattle.std.proofs.Common.{◌≡◌, ◌≤◌, ◌*◌, drop}
use Rattle.region_algebra.specs.Space.{product}
use Rattle.world_law.specs.Limits.{MAX_MASS}
use Rattle.world_law.specs.Placed.{dens}
use Rattle.world_law.proofs.judge.is_wide.Given as goal

-- the product so far is not above the limit, and makes the whole with that of the others
abbrev pub invariant-loop-item : goal.invariant-loop-item
invariant-loop-item l = (l.product * product (drop l.item-index (dens l.placed)) ≡ product (dens l.placed)) × (l.product ≤ MAX_MASS)
