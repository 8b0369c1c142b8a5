-- One pair more.
use Rattle.region_index.proofs.Changing.{by_code-next}
use Rattle.region_index.proofs.changes.by_code.Goals as goal

pub loop-code-preserved : goal.loop-code-preserved
loop-code-preserved c = λ code. by_code-next _ _ _ _ _ code c.loop-code-test.true (c.loop-code.invariant code) (c.in_ok-add.ensures code)
