use Rattle.std.proofs.Common.{◌+◌, [], length, ap, arith}
use Rattle.std.proofs.lemmas.List.{get_or_read}
use Rattle.fact_records.proofs.Load.{excess_more, excess_fits, excess_all}
use Rattle.fact_records.proofs.blocks.load.Goals as goal

-- the block of this turn adds what it has above a half
pub loop-block-preserved : goal.loop-block-preserved
loop-block-preserved c =
    let others = c.in-Some.others.now in
    let i = c.loop-block.block-index in
    let read = get_or_read others i _ c.loop-block-test.true c.block-item.is [] in
    omega (arith, excess_more others i c.loop-block-test.true, ap length read, c.loop-block.invariant, c.saturating_sub.ensures)

pub overflow_add-load : goal.overflow_add-load
overflow_add-load c =
    let others = c.in-Some.others.now in
    let i = c.loop-block.block-index in
    let read = get_or_read others i _ c.loop-block-test.true c.block-item.is [] in
    omega (arith, excess_fits c.args.used.now others c.in-Some.last.now (i + 1) c.in-Some.ensures.cases.0, excess_more others i c.loop-block-test.true, ap length read, c.loop-block.invariant, c.saturating_sub.ensures, c.requires)

pub returns : goal.returns
returns c =
    omega (arith, excess_all c.args.used.now c.in-Some.others.now c.in-Some.last.now c.loop-block.block-index c.in-Some.ensures.cases.0 c.loop-block-test.false, c.loop-block.invariant)
