use Rattle.std.proofs.Common.{◌≡◌, [], refl, Some}
use Rattle.std.proofs.KnownBytes.{Keeps-refl}
use Rattle.script_run.specs.Seen.{SeenAll, seen_of}
use Rattle.cube_cli.specs.declared.command.Command.TheVariants.{Store}
use Rattle.cube_cli.specs.declared.command.StoreCommand.TheVariants.{Follow}
use Rattle.cube_cli.specs.Doing.{Fits, doing_of, ends_of}
use Rattle.cube_cli.proofs.First.{wants_memory}
use Rattle.cube_cli.proofs.FollowEnds.{says_followed}
use Rattle.cube_cli.proofs.following.follow_over.Goals as goal

pub returns-clause-says : goal.returns-clause-says
returns-clause-says g c = λ content given over fitting.
    let seen : SeenAll = seen_of g.S.Source.tells g.K.Sink.tells g.Q.Keeper.tells c.args.source.now c.follow_stream.new.source c.args.out.now c.follow_stream.new.out c.args.keeper.now c.follow_stream.new.keeper in
    rw c.end_of_follow.ensures (says_followed c.args.base seen content over given fitting c.follow_stream.result c.follow_stream.ensures.ends)

-- it ran out of memory before anything was done
pub returns-in_default-clause-says : goal.returns-in_default-clause-says
returns-in_default-clause-says g c = λ content given over fitting.
    let seen : SeenAll = seen_of g.S.Source.tells g.K.Sink.tells g.Q.Keeper.tells c.args.source.now c.args.source.now c.args.out.now c.args.out.now c.args.keeper.now c.args.keeper.now in
    wants_memory seen (record { nothing = record { wrote = Keeps-refl _; kept = refl }; read = Keeps-refl _ }) (ends_of (Some (Store Follow))) (doing_of [] (Some (Store Follow))) (Fits (Some (Store Follow))) refl
    (record { read = refl; write = refl; keep = refl })
