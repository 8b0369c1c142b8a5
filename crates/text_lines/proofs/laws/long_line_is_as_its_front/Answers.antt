use Rattle.text_lines.proofs.LineTexts.{IsAsItsFront-long}
use Rattle.text_lines.proofs.laws.long_line_is_as_its_front.Goals as goal

pub returns : goal.returns
returns c = IsAsItsFront-long
