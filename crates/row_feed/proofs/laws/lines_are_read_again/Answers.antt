use Rattle.row_feed.proofs.ReadAgain.{edit-read, fact-read, growth-read}
use Rattle.row_feed.proofs.laws.lines_are_read_again.Goals as goal

pub returns : goal.returns
returns c = record {
  fact = λ schema fact is valid. fact-read schema fact is valid;
  edit = λ schema number change is fits valid. edit-read schema number change is fits valid;
  growth = λ schema number leaf is fits grows named. growth-read schema number leaf is fits grows named;
}
