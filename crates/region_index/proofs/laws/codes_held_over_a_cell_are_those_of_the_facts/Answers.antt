use Rattle.region_index.proofs.HeldCodes.{held_codes-cover}
use Rattle.region_index.proofs.laws.codes_held_over_a_cell_are_those_of_the_facts.Goals as goal

pub returns : goal.returns
returns c = λ dims facts content cell code trees named indexes. held_codes-cover dims facts content cell code trees named indexes
