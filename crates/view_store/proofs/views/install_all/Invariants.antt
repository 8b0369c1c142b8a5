-- The views from this one on are set.
use Rattle.view_store.proofs.Turns.{IsInstalling}
use Rattle.view_store.proofs.views.install_all.Given as goal

abbrev pub invariant-loop-v : goal.invariant-loop-v
invariant-loop-v l = IsInstalling l.initial.views l.views l.v l.initial.stages.items l.stages.items
