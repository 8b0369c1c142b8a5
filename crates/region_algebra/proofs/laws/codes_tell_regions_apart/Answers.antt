use Rattle.region_algebra.proofs.Tuples.{code_of-same}
use Rattle.region_algebra.proofs.laws.codes_tell_regions_apart.Goals as goal

pub returns : goal.returns
returns c = λ dims a b trees first second same. code_of-same dims a b trees first second same
