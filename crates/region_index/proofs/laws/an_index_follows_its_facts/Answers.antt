use Rattle.region_index.proofs.Indexing.{Indexes-applied}
use Rattle.region_index.proofs.laws.an_index_follows_its_facts.Goals as goal

pub returns : goal.returns
returns c = λ dims before after old new puts drops ascends rises follow indexes applies. Indexes-applied dims before after old new puts drops ascends rises follow indexes applies
