use Rattle.std.proofs.Common.{arith, eqb}
use Rattle.std.proofs.lemmas.List.Splits.{length-slice_split}
use Rattle.text_lines.proofs.fields.field_count.Goals as goal

pub returns : goal.returns
returns c = omega (arith, length-slice_split (λ b. eqb b 9) c.args.line.now, c.count_of.ensures.count)
