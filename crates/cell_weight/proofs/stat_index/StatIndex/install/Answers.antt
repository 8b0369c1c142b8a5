-- A change is installed after those before it.
use Rattle.cell_weight.proofs.Changes.{AreStats-installed, Installing-next}
use Rattle.cell_weight.proofs.stat_index.StatIndex.install.Goals as goal

pub invariant_of-self : goal.invariant_of-self
invariant_of-self c = AreStats-installed _ _ _ _ c.self.invariant c.requires.possible c.loop-cell.invariant c.loop-cell-test.false

pub loop-cell-preserved : goal.loop-cell-preserved
loop-cell-preserved c = Installing-next _ _ _ _ _ _ c.loop-cell-test.true c.requires.distinct c.loop-cell.invariant c.put.ensures
