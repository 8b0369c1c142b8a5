use Rattle.schema_text.proofs.ReadsAgain.{reads_again}
use Rattle.schema_text.proofs.laws.what_is_written_is_read.Goals as goal

pub returns : goal.returns
returns c = λ schema rest is. reads_again schema is rest
