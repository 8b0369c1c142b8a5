use Rattle.std.proofs.Common.{◌-◌, length, refl, sym, ap, arith}
use Rattle.std.proofs.lemmas.Nat.{mul-le}
use Rattle.region_algebra.proofs.Turns.{before, cells-at_end, count_next, is_region-length}
use Rattle.region_algebra.proofs.cells.count.Goals as goal

pub node-requires : goal.node-requires
node-requires c = omega (arith, is_region-length c.args.dims.now c.args.r c.requires.region, c.loop-d.invariant.within)

pub loop-d-init : goal.loop-d-init
loop-d-init c = record {
  within = omega arith;
  count_is = sym (ap length (cells-at_end c.args.dims.now c.args.r (length c.args.dims.now) c.requires.region (omega arith)));
  some = omega arith;
}

pub leaf_range-first-requires : goal.leaf_range-first-requires
leaf_range-first-requires c =
    let at = before c.args.dims.now c.args.r (c.loop-d.d - 1) c.loop-d.d c.index-dims-d.result c.node.result c.requires.region c.loop-d.invariant.within c.loop-d-test.true refl c.index-dims-d.is c.node.ensures in
    at.within

pub overflow_mul-count : goal.overflow_mul-count
overflow_mul-count c =
    let at = before c.args.dims.now c.args.r (c.loop-d.d - 1) c.loop-d.d c.index-dims-d.result c.node.result c.requires.region c.loop-d.invariant.within c.loop-d-test.true refl c.index-dims-d.is c.node.ensures in
    let next = count_next c.args.dims.now c.args.r (c.loop-d.d - 1) c.loop-d.d c.leaf_range-first.result.0 c.leaf_range-first.result.1 c.from-count.result c.loop-d.count c.index-dims-d.result c.node.result c.requires.trees c.requires.total at c.leaf_range-first.ensures.leaves c.from-count.ensures c.loop-d.invariant.count_is in
    omega (arith, next.1)

pub loop-d-preserved : goal.loop-d-preserved
loop-d-preserved c =
    let at = before c.args.dims.now c.args.r (c.loop-d.d - 1) c.loop-d.d c.index-dims-d.result c.node.result c.requires.region c.loop-d.invariant.within c.loop-d-test.true refl c.index-dims-d.is c.node.ensures in
    let next = count_next c.args.dims.now c.args.r (c.loop-d.d - 1) c.loop-d.d c.leaf_range-first.result.0 c.leaf_range-first.result.1 c.from-count.result c.loop-d.count c.index-dims-d.result c.node.result c.requires.trees c.requires.total at c.leaf_range-first.ensures.leaves c.from-count.ensures c.loop-d.invariant.count_is in
    record {
      within = omega (arith, c.loop-d.invariant.within);
      count_is = next.0;
      some = omega (arith, mul-le 1 1 c.loop-d.count c.from-count.result c.loop-d.invariant.some (omega (arith, c.from-count.ensures, c.leaf_range-first.ensures.some)));
    }
