use Rattle.script_run.specs.Seen.{Told, told_of}
use Rattle.cube_cli.proofs.Keepers.{committed_one, not_committed}
use Rattle.cube_cli.proofs.init.keep_schema.Goals as goal

pub returns-clause-kept : goal.returns-clause-kept
returns-clause-kept g c =
    let before : Told = told_of g.Q.Keeper.tells c.args.keeper.now in
    let after : Told = told_of g.Q.Keeper.tells c.commit-kept.new.self in
    committed_one before after c.commit-kept.result c.in-Ok.batch _ c.in-Ok.ensures c.commit-kept.ensures.applied c.commit-kept.ensures.appended

pub returns-clause-not_kept : goal.returns-clause-not_kept
returns-clause-not_kept g c =
    let before : Told = told_of g.Q.Keeper.tells c.args.keeper.now in
    let after : Told = told_of g.Q.Keeper.tells c.commit-kept.new.self in
    not_committed before after c.commit-kept.result c.commit-kept.ensures.same_content c.commit-kept.ensures.same_journal
