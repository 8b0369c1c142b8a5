use Rattle.std.proofs.Common.{◌≡◌, ◌-◌, length, refl, arith}
use Rattle.region_algebra.proofs.Tuples.{HasCode, code_next, code_start}
use Rattle.region_algebra.proofs.Turns.{before, is_region-length}
use Rattle.region_algebra.proofs.regions.code.Goals as goal

pub loop-d-init : goal.loop-d-init
loop-d-init c = record { within = omega arith; code_is = code_start c.args.dims.now c.args.r (length c.args.dims.now) c.requires.region refl }

pub node-requires : goal.node-requires
node-requires c = omega (arith, is_region-length c.args.dims.now c.args.r c.requires.region, c.loop-d.invariant.within)

pub digit-requires : goal.digit-requires
digit-requires c =
    let at = before c.args.dims.now c.args.r (c.loop-d.d - 1) c.loop-d.d c.index-dims-d.result c.node.result c.requires.region c.loop-d.invariant.within c.loop-d-test.true refl c.index-dims-d.is c.node.ensures in
    at.within

pub overflow_mul-code : goal.overflow_mul-code
overflow_mul-code c =
    let at = before c.args.dims.now c.args.r (c.loop-d.d - 1) c.loop-d.d c.index-dims-d.result c.node.result c.requires.region c.loop-d.invariant.within c.loop-d-test.true refl c.index-dims-d.is c.node.ensures in
    let next = code_next c.args.dims.now c.args.steps.now c.args.r (c.loop-d.d - 1) c.loop-d.d c.loop-d.code c.node.result c.digit.result c.index-dims-d.result c.requires.steps at c.loop-d.invariant.within c.loop-d-test.true refl c.digit.ensures c.loop-d.invariant.code_is in
    omega (arith, next.1)

pub overflow_add-code : goal.overflow_add-code
overflow_add-code c =
    let at = before c.args.dims.now c.args.r (c.loop-d.d - 1) c.loop-d.d c.index-dims-d.result c.node.result c.requires.region c.loop-d.invariant.within c.loop-d-test.true refl c.index-dims-d.is c.node.ensures in
    let next = code_next c.args.dims.now c.args.steps.now c.args.r (c.loop-d.d - 1) c.loop-d.d c.loop-d.code c.node.result c.digit.result c.index-dims-d.result c.requires.steps at c.loop-d.invariant.within c.loop-d-test.true refl c.digit.ensures c.loop-d.invariant.code_is in
    omega (arith, next.1)

pub loop-d-preserved : goal.loop-d-preserved
loop-d-preserved c =
    let at = before c.args.dims.now c.args.r (c.loop-d.d - 1) c.loop-d.d c.index-dims-d.result c.node.result c.requires.region c.loop-d.invariant.within c.loop-d-test.true refl c.index-dims-d.is c.node.ensures in
    let next = code_next c.args.dims.now c.args.steps.now c.args.r (c.loop-d.d - 1) c.loop-d.d c.loop-d.code c.node.result c.digit.result c.index-dims-d.result c.requires.steps at c.loop-d.invariant.within c.loop-d-test.true refl c.digit.ensures c.loop-d.invariant.code_is in
    record { within = omega (arith, c.loop-d.invariant.within); code_is = next.0 }

pub returns : goal.returns
returns c =
    let start : c.loop-d.d ≡ 0 = omega (arith, c.loop-d-test.false) in
    let whole : HasCode c.args.dims.now c.args.r 0 c.loop-d.code = rw (← start) c.loop-d.invariant.code_is in
    record { code = whole.coded; place = whole.is; within = whole.below }
