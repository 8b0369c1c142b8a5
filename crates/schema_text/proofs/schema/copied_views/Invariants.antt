-- The views before this one are copied.
use Rattle.std.proofs.Common.{◌≡◌, take}
use Rattle.schema_text.proofs.schema.copied_views.Given as goal

abbrev pub invariant-loop-view : goal.invariant-loop-view
invariant-loop-view l = l.copies ≡ take l.view-index l.views
