use Rattle.region_algebra.proofs.Spaces.{cells-within}
use Rattle.region_algebra.proofs.space.Space.cells.Goals as goal

pub returns-clause-within : goal.returns-clause-within
returns-clause-within c = rw c.new.ensures (cells-within c.args.self.now c.args.r)
