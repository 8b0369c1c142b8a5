use Rattle.region_algebra.proofs.Spaces.{first_cell-within}
use Rattle.region_algebra.proofs.space.Space.cell_code.Goals as goal

pub returns-then-cell_count-eq1-clause-within : goal.returns-then-cell_count-eq1-clause-within
returns-then-cell_count-eq1-clause-within c = first_cell-within c.args.self.now c.args.r c.first_cell.result c.first_cell.ensures
