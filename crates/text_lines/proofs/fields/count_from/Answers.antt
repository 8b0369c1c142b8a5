use Rattle.std.proofs.Common.{◌+◌, ap, ◌∙◌, arith}
use Rattle.std.specs.Int.RustNames.{count_ones}
use Rattle.text_lines.proofs.FieldMarks.{count-marked}
use Rattle.text_lines.proofs.fields.count_from.Goals as goal

pub returns-then-line-le-MARKED : goal.returns-then-line-le-MARKED
returns-then-line-le-MARKED c = ap (λ n. count_ones n + 1) c.requires.marked ∙ count-marked c.args.line.now c.args.from (omega (arith, c.if-line-le-MARKED.true))
