use Rattle.std.proofs.Common.{◌≡◌, ◌+◌, ◌-◌, ◌<◌, ◌≤◌, ◌∙◌, length, refl, sym, arith, length-set}
use Rattle.std.specs.List.{range_with_len}
use Rattle.cube_model.specs.Cells.{leaf_places}
use Rattle.cube_model.specs.Tree.{leaves}
use Rattle.region_algebra.proofs.InsideDigits.{digit_fits, told_digit, told_done, told_start, told_whole}
use Rattle.region_algebra.proofs.Turns.{here, is_region-length}
use Rattle.region_algebra.proofs.cells.digits.Goals as goal
use Rattle.region_algebra.proofs.cells.digits.Goals.{then-is_asked, else-is_asked}

pub loop-d-init : goal.loop-d-init
loop-d-init c = record { room = refl; told = told_start c.args.dims.now c.args.r _ }

pub node-requires : goal.node-requires
node-requires c = omega (arith, is_region-length c.args.dims.now c.args.r c.requires.region, c.loop-d-test.true)

pub leaf_range-first-requires : goal.leaf_range-first-requires
leaf_range-first-requires c =
    (here c.args.dims.now c.args.r c.loop-d.d (c.loop-d.d + 1) c.index-dims-d.result c.node.result c.requires.region c.loop-d-test.true refl c.index-dims-d.is c.node.ensures).within

pub overflow_mul-digit : goal.overflow_mul-digit
overflow_mul-digit c =
    let at = here c.args.dims.now c.args.r c.loop-d.d (c.loop-d.d + 1) c.index-dims-d.result c.node.result c.requires.region c.loop-d-test.true refl c.index-dims-d.is c.node.ensures in
    let many : c.from.result ≡ length (leaves c.index-dims-d.result) = c.from.ensures ∙ c.leaf_count.ensures.count in
    omega (arith, (digit_fits c.args.dims.now c.args.steps.now c.args.r c.loop-d.d c.loop-d.count c.leaf_range-first.result.0 c.leaf_range-first.result.1 c.from.result c.loop-d.digits c.index-dims-d.result c.node.result c.requires.steps c.loop-d-test.true at c.leaf_range-first.ensures.leaves c.leaf_range-first.ensures.some c.leaf_range-first.ensures.within many c.loop-d.invariant.told).0)

pub overflow_mul-digit-in-loop-d : goal.overflow_mul-digit-in-loop-d
overflow_mul-digit-in-loop-d c =
    let at = here c.args.dims.now c.args.r c.loop-d.d (c.loop-d.d + 1) c.index-dims-d.result c.node.result c.requires.region c.loop-d-test.true refl c.index-dims-d.is c.node.ensures in
    let low : c.from-in-loop-d.result ≡ c.leaf_range-first.result.0 = c.from-in-loop-d.ensures in
    let range : leaf_places c.index-dims-d.result c.node.result ≡ range_with_len c.from-in-loop-d.result (c.leaf_range-first.result.1 - c.from-in-loop-d.result) = rw low c.leaf_range-first.ensures.leaves in
    omega (arith, (digit_fits c.args.dims.now c.args.steps.now c.args.r c.loop-d.d c.loop-d.count c.from-in-loop-d.result c.leaf_range-first.result.1 c.leaf_count.result c.loop-d.digits c.index-dims-d.result c.node.result c.requires.steps c.loop-d-test.true at range (omega (arith, low, c.leaf_range-first.ensures.some)) c.leaf_range-first.ensures.within c.leaf_count.ensures.count c.loop-d.invariant.told).1)

pub overflow_mul-digit-in-loop-d-2 : goal.overflow_mul-digit-in-loop-d-2
overflow_mul-digit-in-loop-d-2 c =
    let at = here c.args.dims.now c.args.r c.loop-d.d (c.loop-d.d + 1) c.index-dims-d.result c.node.result c.requires.region c.loop-d-test.true refl c.index-dims-d.is c.node.ensures in
    let high : c.from-in-loop-d-2.result ≡ c.leaf_range-first.result.1 = c.from-in-loop-d-2.ensures in
    let range : leaf_places c.index-dims-d.result c.node.result ≡ range_with_len c.leaf_range-first.result.0 (c.from-in-loop-d-2.result - c.leaf_range-first.result.0) = rw high c.leaf_range-first.ensures.leaves in
    omega (arith, (digit_fits c.args.dims.now c.args.steps.now c.args.r c.loop-d.d c.loop-d.count c.leaf_range-first.result.0 c.from-in-loop-d-2.result c.leaf_count.result c.loop-d.digits c.index-dims-d.result c.node.result c.requires.steps c.loop-d-test.true at range (omega (arith, high, c.leaf_range-first.ensures.some)) (omega (arith, high, c.leaf_range-first.ensures.within)) c.leaf_count.ensures.count c.loop-d.invariant.told).2)

pub loop-d-preserved : goal.loop-d-preserved
loop-d-preserved c =
    let at = here c.args.dims.now c.args.r c.loop-d.d (c.loop-d.d + 1) c.index-dims-d.result c.node.result c.requires.region c.loop-d-test.true refl c.index-dims-d.is c.node.ensures in
    let low : c.from-in-loop-d.result ≡ c.leaf_range-first.result.0 = c.from-in-loop-d.ensures in
    let high : c.from-in-loop-d-2.result ≡ c.leaf_range-first.result.1 = c.from-in-loop-d-2.ensures in
    let many : c.from.result ≡ length (leaves c.index-dims-d.result) = c.from.ensures ∙ c.leaf_count.ensures.count in
    let range : leaf_places c.index-dims-d.result c.node.result ≡ range_with_len c.from-in-loop-d.result (c.from-in-loop-d-2.result - c.from-in-loop-d.result) = rw (low, high) c.leaf_range-first.ensures.leaves in
    let some : c.from-in-loop-d.result < c.from-in-loop-d-2.result = omega (arith, low, high, c.leaf_range-first.ensures.some) in
    let most : c.from-in-loop-d-2.result ≤ length (leaves c.index-dims-d.result) = omega (arith, high, c.leaf_range-first.ensures.within) in
    elim c.if-is_asked.branch [
      | then-is_asked w ↦ rw (w.digits-is, w.count-is) (record {
        room = length-set c.loop-d.digits c.loop-d.count _ ∙ c.loop-d.invariant.room;
        told = told_digit c.args.dims.now c.args.steps.now c.args.r c.loop-d.d c.loop-d.count c.from-in-loop-d.result c.from-in-loop-d-2.result c.from.result c.loop-d.digits c.index-dims-d.result c.node.result c.requires.steps c.loop-d-test.true at range some most many c.loop-d.invariant.told c.loop-d.invariant.room (omega (arith, c.requires.few, c.loop-d-test.true));
      })
      | else-is_asked w ↦ rw (w.digits-is, w.count-is) (record {
        room = c.loop-d.invariant.room;
        told = told_whole c.args.dims.now c.args.steps.now c.args.r c.loop-d.d c.loop-d.count c.from-in-loop-d.result c.from-in-loop-d-2.result c.from.result c.loop-d.digits c.index-dims-d.result c.node.result c.requires.steps c.loop-d-test.true at range some most many c.loop-d.invariant.told (sym c.is_asked.ensures ∙ w.if-is_asked.false);
      })
    ]

pub returns : goal.returns
returns c = told_done c.args.dims.now c.args.r c.loop-d.d c.loop-d.digits c.loop-d.count c.requires.region (omega (arith, c.loop-d-test.false)) (omega (arith, c.requires.few)) c.loop-d.invariant.told
