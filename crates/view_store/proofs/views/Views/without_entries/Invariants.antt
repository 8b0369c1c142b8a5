-- The views before this one were made.
use Rattle.std.proofs.Common.{◌≡◌, map, take}
use Rattle.view_store.specs.Views.{without_entries}
use Rattle.view_store.proofs.views.Views.without_entries.Given as goal

abbrev pub invariant-loop-view : goal.invariant-loop-view
invariant-loop-view l = l.views.items ≡ map without_entries (take l.view-index l.initial.self.views)
