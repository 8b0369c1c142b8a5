use Rattle.text_lines.proofs.Cuttings.{lines_ahead-pieces}
use Rattle.text_lines.proofs.Ended.{ended_lines-length, lines_of-last, pieces_of-more, whole_lines-ended}
use Rattle.text_lines.proofs.cutter_laws.lines_that_end.Goals as goal

pub returns : goal.returns
returns c = record {
  whole = whole_lines-ended;
  count = ended_lines-length;
  piece = pieces_of-more;
  more = lines_ahead-pieces;
  last = lines_of-last;
}
