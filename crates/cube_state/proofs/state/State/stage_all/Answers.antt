-- The changes suffice for the views.
use Rattle.std.proofs.Common.{sym, subst}
use Rattle.cube_state.specs.ViewChanges.{SufficeFor, all_changes}
use Rattle.cube_state.proofs.state.State.stage_all.Goals as goal

pub make_room-requires-clause-changes : goal.make_room-requires-clause-changes
make_room-requires-clause-changes g c =
    subst (λ changes. SufficeFor c.args.self.now.dims c.args.self.now.kept.views (all_changes c.args.self.now c.args.regrouped.groups) changes) (sym c.deref.ensures.value) c.in_ok-changes.ensures.changes
