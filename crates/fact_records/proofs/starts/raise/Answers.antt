use Rattle.std.proofs.Common.{◌+◌, get_or, refl, sym, ◌∙◌, arith}
use Rattle.std.proofs.lemmas.List.{get_or-set_other}
use Rattle.fact_records.proofs.BlockStarts.{mapped_from-past, mapped_from-step}
use Rattle.fact_records.proofs.starts.raise.Goals as goal

pub loop-block-preserved : goal.loop-block-preserved
loop-block-preserved c =
    let starts = c.loop-block.starts in
    let block = c.loop-block.block in
    let next = get_or starts block 0 + 1 in
    record {
      left = mapped_from-step (λ start. start + 1) starts block next (omega arith) refl ∙ c.loop-block.invariant.left;
      rest = λ k behind. get_or-set_other starts block k next 0 (omega arith) ∙ c.loop-block.invariant.rest k (omega arith);
    }

pub returns : goal.returns
returns c = sym (mapped_from-past (λ start. start + 1) c.loop-block.starts c.loop-block.block (omega arith)) ∙ c.loop-block.invariant.left
