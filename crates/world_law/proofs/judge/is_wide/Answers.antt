use Rattle.std.proofs.Common.{◌≤◌, ◌<◌, ◌+◌, ℕ, arith}
use Rattle.std.proofs.lemmas.List.Elements.{All-weaker}
use Rattle.std.proofs.Math.Nat.{mul-le-mul_right}
use Rattle.cube_model.specs.Limits.{DEN_LIMIT}
use Rattle.world_law.specs.declared.placed.Placed.{Placed}
use Rattle.world_law.specs.Limits.{MAX_MASS}
use Rattle.world_law.proofs.Judging.{of_read, wide_else, wide_end, wide_then}
use Rattle.world_law.proofs.judge.is_wide.Goals as goal

abbrev den : Placed → ℕ
den p = p.den

pub overflow_mul-product : goal.overflow_mul-product
overflow_mul-product c =
    let fits = of_read (λ (p : Placed). (1 ≤ p.den) × (p.den < DEN_LIMIT)) c.args.placed.now c.loop-item.item-index c.item-item.result c.requires c.loop-item-test.true c.item-item.is in
    omega (arith, fits.1, c.from-product.ensures, c.loop-item.invariant.1, mul-le-mul_right c.from-product.result c.loop-item.invariant.1)

pub loop-item-preserved : goal.loop-item-preserved
loop-item-preserved c = (
  wide_else den c.args.placed.now c.loop-item.item-index c.item-item.result _ c.loop-item.product c.loop-item-test.true c.item-item.is c.from-product.ensures _ c.loop-item.invariant.0,
  omega (arith, c.if-product-from.false, c.from.ensures),
)

pub returns-then-product-from : goal.returns-then-product-from
returns-then-product-from c =
    let more = wide_else den c.args.placed.now c.loop-item.item-index c.item-item.result _ c.loop-item.product c.loop-item-test.true c.item-item.is c.from-product.ensures _ c.loop-item.invariant.0 in
    wide_then den c.args.placed.now (c.loop-item.item-index + 1) MAX_MASS _ _ (All-weaker (λ (p : Placed). (1 ≤ p.den) × (p.den < DEN_LIMIT)) (λ p. 1 ≤ p.den) (λ p both. both.0) c.args.placed.now c.requires)
    (omega (arith, c.if-product-from.true, c.from.ensures)) more

pub returns : goal.returns
returns c = wide_end den c.args.placed.now c.loop-item.item-index MAX_MASS c.loop-item.product _ c.loop-item.invariant.1 c.loop-item-test.false c.loop-item.invariant.0
