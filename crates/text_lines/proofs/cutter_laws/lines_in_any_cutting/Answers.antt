use Rattle.std.proofs.Common.{[], refl}
use Rattle.text_lines.proofs.Cuttings.{lines_given-front}
use Rattle.text_lines.proofs.cutter_laws.lines_in_any_cutting.Goals as goal

pub returns : goal.returns
returns c = λ pieces. lines_given-front pieces [] [] tt refl
