-- The views of the definitions before this one were made.
use Rattle.std.proofs.Common.{◌≡◌, map, take}
use Rattle.view_store.specs.Views.{view_of}
use Rattle.view_store.proofs.views.Views.new.Given as goal

abbrev pub invariant-loop-def : goal.invariant-loop-def
invariant-loop-def l = l.views.items ≡ map (view_of l.columns) (take l.def-index l.defs)
