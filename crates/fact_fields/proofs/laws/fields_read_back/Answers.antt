use Rattle.fact_fields.proofs.FactsAgain.{fact-again}
use Rattle.fact_fields.proofs.laws.fields_read_back.Goals as goal

pub returns : goal.returns
returns c = λ schema fact is valid. fact-again schema fact is valid
