use Rattle.text_lines.proofs.Cuttings.{lines_ahead-piece, lines_ahead-pieces}
use Rattle.text_lines.proofs.cutter_laws.lines_held_and_ahead.Goals as goal

pub returns : goal.returns
returns c = record {
  text = lines_ahead-pieces;
  piece = lines_ahead-piece;
}
