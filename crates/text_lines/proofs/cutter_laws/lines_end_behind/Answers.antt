use Rattle.text_lines.proofs.Ended.{line_end-behind}
use Rattle.text_lines.proofs.cutter_laws.lines_end_behind.Goals as goal

pub returns : goal.returns
returns c = line_end-behind
