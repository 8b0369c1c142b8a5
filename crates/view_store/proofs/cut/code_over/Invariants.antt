-- What the nodes add of the dimensions from this one on was added.
use Rattle.view_store.proofs.CutSums.{IsSumFrom}
use Rattle.view_store.proofs.cut.code_over.Given as goal

abbrev pub invariant-loop-d : goal.invariant-loop-d
invariant-loop-d l = IsSumFrom l.space l.depths l.r l.d l.code
