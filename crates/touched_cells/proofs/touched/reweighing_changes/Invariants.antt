-- Of the changes before this one, those that reweigh are kept.
use Rattle.std.proofs.Common.{◌≡◌, take}
use Rattle.touched_cells.specs.Touched.{reweighing}
use Rattle.touched_cells.proofs.touched.reweighing_changes.Given as goal

abbrev pub invariant-loop-change : goal.invariant-loop-change
invariant-loop-change g l = l.some ≡ reweighing (g.P.WeightPolicy.weigh l.policy) (take l.change-index l.change-items)
