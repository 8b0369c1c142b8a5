-- The marks before the place are shifted out of the last block's.
use Rattle.std.proofs.Common.{◌-◌, ◌/◌, ◌^◌, eqb, length, ap, ◌∙◌, arith}
use Rattle.text_lines.proofs.Marks.{mask_l-behind}
use Rattle.text_lines.proofs.blocks.marks_behind.Goals as goal

pub returns : goal.returns
returns c =
    let last = length c.args.bytes.now - 16 in
    ap (λ n. n / 2 ^ (c.args.at - last)) c.marks_of.ensures
    ∙ mask_l-behind (λ b. eqb b c.args.byte) c.args.bytes.now last (c.args.at - last) c.args.at (omega arith) (omega (arith, c.requires))
