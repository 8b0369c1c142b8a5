use Rattle.std.proofs.Common.{◌≡◌, ◌-◌, length, refl, ap, arith}
use Rattle.std.specs.Prelude.{slice_get}
use Rattle.region_algebra.proofs.Turns.{before, cells-at_end, first_next, is_region-length}
use Rattle.region_algebra.proofs.cells.first.Goals as goal

pub node-requires : goal.node-requires
node-requires c = omega (arith, is_region-length c.args.dims.now c.args.r c.requires.region, c.loop-d.invariant.within)

pub loop-d-init : goal.loop-d-init
loop-d-init c = record {
  within = omega arith;
  first = ap (λ cells. slice_get cells 0) (cells-at_end c.args.dims.now c.args.r (length c.args.dims.now) c.requires.region (omega arith));
}

pub leaf_range-first-requires : goal.leaf_range-first-requires
leaf_range-first-requires c =
    let at = before c.args.dims.now c.args.r (c.loop-d.d - 1) c.loop-d.d c.index-dims-d.result c.node.result c.requires.region c.loop-d.invariant.within c.loop-d-test.true refl c.index-dims-d.is c.node.ensures in
    at.within

pub overflow_mul-code : goal.overflow_mul-code
overflow_mul-code c =
    let at = before c.args.dims.now c.args.r (c.loop-d.d - 1) c.loop-d.d c.index-dims-d.result c.node.result c.requires.region c.loop-d.invariant.within c.loop-d-test.true refl c.index-dims-d.is c.node.ensures in
    let next = first_next c.args.dims.now c.args.steps.now c.args.r (c.loop-d.d - 1) c.loop-d.d c.loop-d.code c.from.result c.leaf_range-first.result.0 c.leaf_range-first.result.1 c.index-dims-d.result c.node.result c.requires.steps at c.loop-d.invariant.within c.loop-d-test.true refl c.leaf_range-first.ensures.leaves c.leaf_range-first.ensures.some c.from.ensures c.loop-d.invariant.first in
    omega (arith, next.1)

pub overflow_add-code : goal.overflow_add-code
overflow_add-code c =
    let at = before c.args.dims.now c.args.r (c.loop-d.d - 1) c.loop-d.d c.index-dims-d.result c.node.result c.requires.region c.loop-d.invariant.within c.loop-d-test.true refl c.index-dims-d.is c.node.ensures in
    let next = first_next c.args.dims.now c.args.steps.now c.args.r (c.loop-d.d - 1) c.loop-d.d c.loop-d.code c.from.result c.leaf_range-first.result.0 c.leaf_range-first.result.1 c.index-dims-d.result c.node.result c.requires.steps at c.loop-d.invariant.within c.loop-d-test.true refl c.leaf_range-first.ensures.leaves c.leaf_range-first.ensures.some c.from.ensures c.loop-d.invariant.first in
    omega (arith, next.1)

pub loop-d-preserved : goal.loop-d-preserved
loop-d-preserved c =
    let at = before c.args.dims.now c.args.r (c.loop-d.d - 1) c.loop-d.d c.index-dims-d.result c.node.result c.requires.region c.loop-d.invariant.within c.loop-d-test.true refl c.index-dims-d.is c.node.ensures in
    let next = first_next c.args.dims.now c.args.steps.now c.args.r (c.loop-d.d - 1) c.loop-d.d c.loop-d.code c.from.result c.leaf_range-first.result.0 c.leaf_range-first.result.1 c.index-dims-d.result c.node.result c.requires.steps at c.loop-d.invariant.within c.loop-d-test.true refl c.leaf_range-first.ensures.leaves c.leaf_range-first.ensures.some c.from.ensures c.loop-d.invariant.first in
    record { within = omega (arith, c.loop-d.invariant.within); first = next.0 }

pub returns : goal.returns
returns c =
    let start : c.loop-d.d ≡ 0 = omega (arith, c.loop-d-test.false) in
    rw start at c.loop-d.invariant.first
