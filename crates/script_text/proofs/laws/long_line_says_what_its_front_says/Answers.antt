use Rattle.script_text.proofs.LineSteps.{line_of-front}
use Rattle.script_text.proofs.laws.long_line_says_what_its_front_says.Goals as goal

pub returns : goal.returns
returns c = λ schema line more. line_of-front schema line more
