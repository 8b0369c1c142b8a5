use Rattle.std.proofs.Common.{◌≡◌, ◌+◌, ◌-◌, get_or, refl, sym, ap, ◌∙◌, arith}
use Rattle.std.proofs.lemmas.List.{get_or-drop, get_or-set_other, length-drop}
use Rattle.fact_records.proofs.BlockStarts.{mapped_from-past, mapped_from-step}
use Rattle.fact_records.proofs.starts.lower.Goals as goal

pub loop-block-preserved : goal.loop-block-preserved
loop-block-preserved c =
    let starts = c.loop-block.starts in
    let block = c.loop-block.block in
    let next = get_or starts block 0 - 1 in
    record {
      left = mapped_from-step (λ start. start - 1) starts block next (omega arith) refl ∙ c.loop-block.invariant.left;
      rest = λ k behind. get_or-set_other starts block k next 0 (omega arith) ∙ c.loop-block.invariant.rest k (omega arith);
    }

-- the number is still what it was, and not 0
pub overflow_sub-starts : goal.overflow_sub-starts
overflow_sub-starts c =
    let place = c.loop-block.block - c.args.from in
    let at : c.args.from + place ≡ c.loop-block.block = omega arith in
    let had = c.requires place 0 (omega (arith, length-drop c.args.from c.args.starts.now)) in
    omega (arith, had, get_or-drop c.args.from c.args.starts.now place 0, ap (λ n. get_or c.args.starts.now n 0) at, c.loop-block.invariant.rest c.loop-block.block (omega arith))

pub returns : goal.returns
returns c = sym (mapped_from-past (λ start. start - 1) c.loop-block.starts c.loop-block.block (omega arith)) ∙ c.loop-block.invariant.left
