use Rattle.region_index.proofs.Indexing.{ids-cover}
use Rattle.region_index.proofs.laws.ids_over_a_cell_are_those_of_the_facts.Goals as goal

pub returns : goal.returns
returns c = λ dims facts content cell ids trees named ascends indexes are. ids-cover dims facts content cell ids trees named ascends indexes are
