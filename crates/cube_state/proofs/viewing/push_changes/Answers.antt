-- The region of a code is told once.
use Rattle.std.proofs.Common.{sym}
use Rattle.std.proofs.lemmas.Result.{on_ok_weaker}
use Rattle.std.specs.Option.{option_copied}
use Rattle.cube_state.proofs.PushedChanges.{pushed-both}
use Rattle.cube_state.proofs.viewing.push_changes.Goals as goal

pub returns : goal.returns
returns c =
    on_ok_weaker c.push_group-2.result
    (pushed-both c.args.space.now c.args.code c.in-Some.region (sym c.in-Some.ensures.region) c.args.changes.now.items c.push_group.new.changes.items c.push_group-2.new.changes.items (option_copied c.args.before) (option_copied c.args.after) c.in_ok-push_group.ensures)
    c.push_group-2.ensures
