use Rattle.std.proofs.Common.{◌-◌, get_or, refl, sym, arith}
use Rattle.std.proofs.lemmas.Option.{get_or_from_slice_get}
use Rattle.fact_records.proofs.BlockStarts.{nth-here, nth-past}
use Rattle.fact_records.proofs.search.nth.Goals as goal

pub returns-then-at-len : goal.returns-then-at-len
returns-then-at-len c =
    let at = c.args.i - get_or c.args.starts.now c.in_ok-block.block 0 in
    nth-here c.args.used.now c.args.starts.now c.args.i c.in_ok-block.block at _ _ _ c.requires.counted c.in_ok-block.ensures.found refl c.in_ok-block.ensures.in_range c.index-used-block.is refl (omega (arith, c.if-at-len.true, c.len.ensures.count)) (sym (get_or_from_slice_get c.index-used-block.result at _ c.get.result c.get.ensures))

pub returns : goal.returns
returns c =
    nth-past c.args.used.now c.args.starts.now c.args.i c.in_ok-block.block (c.args.i - get_or c.args.starts.now c.in_ok-block.block 0) _ _ c.requires.counted c.in_ok-block.ensures.found refl c.in_ok-block.ensures.in_range c.index-used-block.is refl (omega (arith, c.if-at-len.false, c.len.ensures.count))
