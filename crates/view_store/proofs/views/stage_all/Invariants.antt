-- The views before this one are staged.
use Rattle.view_store.proofs.Turns.{IsStaging}
use Rattle.view_store.proofs.views.stage_all.Given as goal

abbrev pub invariant-loop-v : goal.invariant-loop-v
invariant-loop-v l = IsStaging l.space l.changes l.initial.views l.views l.v l.stages.items
