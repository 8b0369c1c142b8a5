-- The changes of the codes before this one.
use Rattle.std.proofs.Common.{◌≡◌, take}
use Rattle.staged_map.specs.Staged.{value_at}
use Rattle.cube_state.specs.ViewChanges.{changes_by}
use Rattle.cube_state.proofs.viewing.changes_by.Given as goal

abbrev pub invariant-loop-code : goal.invariant-loop-code
invariant-loop-code l = l.changes.items ≡ changes_by l.space (value_at l.kept) (take l.code-index l.groups)
