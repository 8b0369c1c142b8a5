use Rattle.std.proofs.Common.{◌-◌, refl, arith}
use Rattle.region_algebra.proofs.Wheels.{turning-back, turning-fits, turning-on, turning_end, turning_next, turning_start}
use Rattle.region_algebra.proofs.wheel.turn.Goals as goal

pub loop-d-init : goal.loop-d-init
loop-d-init c = turning_start c.args.wheels.now c.args.dims c.args.cell (omega (arith, c.requires.few)) c.requires.stand c.requires.here c.requires.limit

pub overflow_add-result : goal.overflow_add-result
overflow_add-result c = omega (arith, turning-fits c.args.wheels.now c.loop-d.wheels c.args.dims (c.loop-d.d - 1) c.loop-d.d c.loop-d.code c.loop-d.invariant c.loop-d-test.true refl c.if-wheel.true)

pub overflow_mul-code : goal.overflow_mul-code
overflow_mul-code c =
    let back = turning-back c.args.wheels.now c.loop-d.wheels c.args.dims (c.loop-d.d - 1) c.loop-d.d c.loop-d.code c.loop-d.invariant c.loop-d-test.true refl c.from.result c.from.ensures in
    omega (arith, back.0, back.1)

pub overflow_sub-code : goal.overflow_sub-code
overflow_sub-code c = (turning-back c.args.wheels.now c.loop-d.wheels c.args.dims (c.loop-d.d - 1) c.loop-d.d c.loop-d.code c.loop-d.invariant c.loop-d-test.true refl c.from.result c.from.ensures).0

pub returns-then-wheel : goal.returns-then-wheel
returns-then-wheel c = turning-on c.args.wheels.now c.loop-d.wheels c.args.dims (c.loop-d.d - 1) c.loop-d.d c.loop-d.code c.loop-d.invariant c.loop-d-test.true refl c.args.cell c.requires.here c.if-wheel.true

pub loop-d-preserved : goal.loop-d-preserved
loop-d-preserved c = turning_next c.args.wheels.now c.loop-d.wheels c.args.dims (c.loop-d.d - 1) c.loop-d.d c.loop-d.code c.loop-d.invariant c.loop-d-test.true refl c.from.result c.from.ensures c.if-wheel.false

pub returns : goal.returns
returns c = turning_end c.args.wheels.now c.loop-d.wheels c.args.dims c.loop-d.d c.args.cell c.loop-d.code (omega (arith, c.loop-d-test.false)) c.requires.here c.loop-d.invariant
