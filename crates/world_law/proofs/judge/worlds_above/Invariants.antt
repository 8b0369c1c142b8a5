use Rattle.std.proofs.Common.{◌≡◌, ◌≤◌, drop}
use Rattle.world_law.specs.Limits.{MAX_WORLDS}
use Rattle.world_law.specs.Placed.{product_above, row_counts}
use Rattle.world_law.proofs.judge.worlds_above.Given as goal

-- the product so far is not above the limit, and the others decide
abbrev pub invariant-loop-item : goal.invariant-loop-item
invariant-loop-item l = (product_above MAX_WORLDS l.product (drop l.item-index (row_counts l.placed)) ≡ product_above MAX_WORLDS 1 (row_counts l.placed)) × (l.product ≤ MAX_WORLDS)
