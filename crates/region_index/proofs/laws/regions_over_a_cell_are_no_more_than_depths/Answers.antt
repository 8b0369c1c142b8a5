use Rattle.region_index.proofs.Lengths.{codes_over-short}
use Rattle.region_index.proofs.laws.regions_over_a_cell_are_no_more_than_depths.Goals as goal

pub returns : goal.returns
returns c = λ dims cell trees within. codes_over-short dims cell trees within
