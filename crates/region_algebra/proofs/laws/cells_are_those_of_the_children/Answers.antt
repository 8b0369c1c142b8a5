use Rattle.region_algebra.proofs.Partition as partition
use Rattle.region_algebra.proofs.laws.cells_are_those_of_the_children.Goals as goal

pub returns : goal.returns
returns c = λ dims region d trees names. partition.cells_are_those_of_the_children dims region d trees names
