use Rattle.std.proofs.Common.{refl}
use Rattle.script_run.specs.Seen.{Told, told_of}
use Rattle.cube_cli.proofs.Keepers.{committed_one, not_committed}
use Rattle.cube_cli.proofs.rebuilding.keep_one.Goals as goal

pub returns-clause-kept : goal.returns-clause-kept
returns-clause-kept g c =
    let before : Told = told_of g.Q.Keeper.tells c.args.keeper.now in
    let after : Told = told_of g.Q.Keeper.tells c.commit.new.self in
    committed_one before after c.commit.result c.args.batch.now c.args.batch.now refl c.commit.ensures.applied c.commit.ensures.appended

pub returns-clause-not_kept : goal.returns-clause-not_kept
returns-clause-not_kept g c =
    let before : Told = told_of g.Q.Keeper.tells c.args.keeper.now in
    let after : Told = told_of g.Q.Keeper.tells c.commit.new.self in
    not_committed before after c.commit.result c.commit.ensures.same_content c.commit.ensures.same_journal
