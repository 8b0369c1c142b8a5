-- Digit by digit: it is inside, and what it adds is added.
use Rattle.std.proofs.Common.{◌≡◌, Some, None, get_or, ◌/◌, arith}
use Rattle.view_store.proofs.CutTables.{next, sum-next, sum-room, sum-start}
use Rattle.view_store.proofs.cut_table.share_sum.Goals as goal

pub loop-digit-init : goal.loop-digit-init
loop-digit-init c = sum-start c.args.digits.now c.args.code c.requires

pub parted-place-requires : goal.parted-place-requires
parted-place-requires c = omega (arith, (next c.args.digits.now c.args.code c.loop-digit.digit-index c.loop-digit.rest c.loop-digit.sum c.digit-item.result c.loop-digit-test.true c.digit-item.is c.loop-digit.invariant).apart)

pub bounds : goal.bounds
bounds c = rw (c.as_slice.ensures, c.parted-place.ensures.place) (next c.args.digits.now c.args.code c.loop-digit.digit-index c.loop-digit.rest c.loop-digit.sum c.digit-item.result c.loop-digit-test.true c.digit-item.is c.loop-digit.invariant).place

pub overflow_add-sum : goal.overflow_add-sum
overflow_add-sum c =
    let some : get_or c.digit-item.result.shares (c.loop-digit.rest / c.digit-item.result.step) None ≡ Some c.in-Some.share = rw (c.as_slice.ensures, c.parted-place.ensures.place) at c.in-Some.is in
    omega (arith, sum-room c.args.digits.now c.args.code c.loop-digit.digit-index c.loop-digit.rest c.loop-digit.sum c.digit-item.result c.loop-digit-test.true c.digit-item.is c.loop-digit.invariant c.in-Some.share some)

pub loop-digit-preserved : goal.loop-digit-preserved
loop-digit-preserved c =
    let some : get_or c.digit-item.result.shares (c.loop-digit.rest / c.digit-item.result.step) None ≡ Some c.in-Some.share = rw (c.as_slice.ensures, c.parted-place.ensures.place) at c.in-Some.is in
    rw c.parted-place.ensures.behind (sum-next c.args.digits.now c.args.code c.loop-digit.digit-index c.loop-digit.rest c.loop-digit.sum c.digit-item.result c.loop-digit-test.true c.digit-item.is c.loop-digit.invariant c.in-Some.share some)
