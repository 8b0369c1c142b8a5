use Rattle.std.proofs.Common.{◌≡◌, ◌++◌, take}
use Rattle.std.specs.List.{flat_map}
use Rattle.schema_text.specs.SchemaText.{view_line}
use Rattle.schema_text.proofs.write.append_views.Given as goal

-- the lines of the views before this one are appended
abbrev pub invariant-loop-view : goal.invariant-loop-view
invariant-loop-view l = l.out.items ≡ l.initial.out.items ++ flat_map view_line (take l.view-index l.views)
