-- A node under this one has the end behind it, and a later one that is not has not.
use Rattle.std.proofs.Common.{◌-◌, ◌+◌, ◌/◌, sym, arith}
use Rattle.region_algebra.proofs.Numbers.{number-at, place_of-number}
use Rattle.region_index.proofs.NodesInLine.{end_of-apart, end_of-behind, end_of-under, end_of-within, under-up_to}
use Rattle.region_index.proofs.touching.end_of.Goals as goal

pub overflow_add-low : goal.overflow_add-low
overflow_add-low c = omega (arith, (place_of-number c.args.dim.now c.args.node c.args.place c.requires.place).0, c.len-high.ensures.count, c.len-high.ensures.most)

pub loop-low-init : goal.loop-low-init
loop-low-init c = record {
  ordered = omega (arith, (place_of-number c.args.dim.now c.args.node c.args.place c.requires.place).0, c.len-high.ensures.count);
  within = omega (arith, c.len-high.ensures.count);
  behind = omega arith;
  least = end_of-behind c.args.dim.now c.len-high.ensures.tree c.args.node c.args.place c.requires.node c.requires.place;
  most = omega (arith, c.len-high.ensures.count, end_of-within c.args.dim.now c.len-high.ensures.tree c.args.node c.args.place c.requires.node c.requires.place);
}

pub loop-low-preserved-then-is_under : goal.loop-low-preserved-then-is_under
loop-low-preserved-then-is_under c =
    let middle = c.loop-low.low + (c.loop-low.high - c.loop-low.low) / 2 in
    record {
      ordered = omega (arith, c.loop-low-test.true);
      within = c.loop-low.invariant.within;
      behind = omega (arith, c.loop-low.invariant.behind);
      least = end_of-under c.args.dim.now c.len-high.ensures.tree c.args.node c.args.place c.requires.node c.requires.place middle c.at.result (number-at c.args.dim.now middle c.at.result c.at.ensures.number) (sym c.if-is_under.ensures);
      most = c.loop-low.invariant.most;
    }

pub loop-low-preserved : goal.loop-low-preserved
loop-low-preserved c =
    let middle = c.loop-low.low + (c.loop-low.high - c.loop-low.low) / 2 in
    record {
      ordered = omega (arith, c.loop-low-test.true);
      within = omega (arith, c.loop-low-test.true, c.loop-low.invariant.within);
      behind = c.loop-low.invariant.behind;
      least = c.loop-low.invariant.least;
      most = end_of-apart c.args.dim.now c.len-high.ensures.tree c.args.node c.args.place c.requires.node c.requires.place middle c.at.result (number-at c.args.dim.now middle c.at.result c.at.ensures.number)
          (omega (arith, c.loop-low.invariant.behind)) (sym c.if-is_under.ensures);
    }

pub returns : goal.returns
returns c =
    under-up_to c.args.dim.now c.len-high.ensures.tree c.args.node c.args.place c.requires.node c.requires.place c.loop-low.low
    (omega (arith, c.loop-low-test.false, c.loop-low.invariant.ordered, c.loop-low.invariant.least, c.loop-low.invariant.most))
