use Rattle.std.proofs.Common.{◌≤◌, ℕ, length, arith, ap}
use Rattle.std.proofs.Math.Nat.{mul-le-mul_right}
use Rattle.cube_model.specs.Limits.{MAX_CELLS}
use Rattle.world_law.specs.declared.placed.Placed.{Placed}
use Rattle.world_law.specs.Limits.{MAX_WORLDS}
use Rattle.world_law.proofs.Judging.{above_else, above_end, above_then, of_read}
use Rattle.world_law.proofs.judge.worlds_above.Goals as goal

abbrev count : Placed → ℕ
count p = length p.rows

-- a product within the limit has room for one number more
pub overflow_mul-product : goal.overflow_mul-product
overflow_mul-product c =
    let few = of_read (λ (p : Placed). length p.rows ≤ MAX_CELLS) c.args.placed.now c.loop-item.item-index c.item-item.result c.requires c.loop-item-test.true c.item-item.is in
    omega (arith, few, ap length c.as_slice.ensures, c.loop-item.invariant.1, mul-le-mul_right (length c.as_slice.result.now) c.loop-item.invariant.1)

pub loop-item-preserved : goal.loop-item-preserved
loop-item-preserved c = (
  above_else count c.args.placed.now c.loop-item.item-index c.item-item.result _ c.loop-item.product c.loop-item-test.true c.item-item.is (ap length c.as_slice.ensures) MAX_WORLDS _ c.if-product-gt-MAX_WORLDS.false c.loop-item.invariant.0,
  c.if-product-gt-MAX_WORLDS.false,
)

pub returns-then-product-gt-MAX_WORLDS : goal.returns-then-product-gt-MAX_WORLDS
returns-then-product-gt-MAX_WORLDS c =
    above_then count c.args.placed.now c.loop-item.item-index c.item-item.result _ c.loop-item.product c.loop-item-test.true c.item-item.is (ap length c.as_slice.ensures) MAX_WORLDS _ c.if-product-gt-MAX_WORLDS.true c.loop-item.invariant.0

-- no number is left
pub returns : goal.returns
returns c = above_end count c.args.placed.now c.loop-item.item-index MAX_WORLDS c.loop-item.product _ c.loop-item-test.false c.loop-item.invariant.0
