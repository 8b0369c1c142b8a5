-- All codes have their changes.
use Rattle.std.proofs.Common.{◌∙◌, ap}
use Rattle.std.proofs.lemmas.List.{take_all}
use Rattle.staged_map.specs.Staged.{value_at}
use Rattle.cube_state.specs.ViewChanges.{changes_by}
use Rattle.cube_state.proofs.viewing.changes_by.Goals as goal

pub returns : goal.returns
returns c =
    c.loop-code.invariant ∙ ap (changes_by c.args.space.now (value_at c.args.kept.now)) (take_all c.loop-code.code-index c.args.groups.now c.loop-code-test.false)
