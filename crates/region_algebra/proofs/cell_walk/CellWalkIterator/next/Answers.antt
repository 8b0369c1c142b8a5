use Rattle.std.proofs.Common.{take, sym, ap, ◌∙◌}
use Rattle.region_algebra.specs.Wheels.{cells_ahead}
use Rattle.region_algebra.proofs.Wheels.{walk_on}
use Rattle.region_algebra.proofs.cell_walk.CellWalkIterator.next.Goals as goal

pub invariant_of-self : goal.invariant_of-self
invariant_of-self c = walk_on c.self.inside.wheels c.turn-cell.new.wheels c.self.inside.dims c.self.inside.cell c.turn-cell.result.0 c.turn-cell.result.1 c.self.invariant c.turn-cell.ensures

pub returns-clause-steps : goal.returns-clause-steps
returns-clause-steps c = sym c.self.view_is ∙ ap (cells_ahead (take c.self.inside.dims c.self.inside.wheels)) c.if-not-self.false ∙ c.turn-cell.ensures.from
