-- Both are long, and both are passed over, or neither.
use Rattle.std.proofs.Common.{refl}
use Rattle.text_lines.proofs.LineTexts.{IsAsItsFront-long}
use Rattle.schema_text.proofs.laws.long_line_means_its_front.Goals as goal

pub returns : goal.returns
returns c = λ draft k line lines more.
    let is = IsAsItsFront-long line more in
    rw (is.skipped, is.long, is.front_long) refl
