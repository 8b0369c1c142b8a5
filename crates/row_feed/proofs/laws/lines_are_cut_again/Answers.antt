use Rattle.row_feed.proofs.FeedLinesPlain.{base_lines-plain, batch_lines-plain, plain-cut}
use Rattle.row_feed.proofs.laws.lines_are_cut_again.Goals as goal

pub returns : goal.returns
returns c = record {
  cut = λ lines rest plain. plain-cut lines rest plain;
  base = λ schema facts is valid. base_lines-plain schema facts is valid;
  batch = λ schema number said batch is fits written printed. batch_lines-plain schema number said batch is fits written printed;
}
