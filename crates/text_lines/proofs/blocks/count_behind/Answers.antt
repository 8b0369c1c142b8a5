use Rattle.std.proofs.Common.{eqb, drop, ap, ◌∙◌}
use Rattle.std.proofs.lemmas.Simd.{ones-mask_l}
use Rattle.std.specs.Int.RustNames.{count_ones}
use Rattle.text_lines.proofs.blocks.count_behind.Goals as goal

pub returns : goal.returns
returns c = ap count_ones c.marks_behind.ensures ∙ ones-mask_l (λ b. eqb b c.args.byte) (drop c.args.at c.args.bytes.now)
