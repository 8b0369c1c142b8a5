use Rattle.std.proofs.Common.{◌∙◌, ap, arith, take}
use Rattle.std.proofs.lemmas.List.{take_min}
use Rattle.text_lines.specs.LineText.{LINE_FRONT}
use Rattle.text_lines.proofs.line_cutter.front.Goals as goal

pub returns : goal.returns
returns c = ap (λ n. take n c.args.line.now) (omega (arith, c.min.ensures)) ∙ take_min LINE_FRONT c.args.line.now
