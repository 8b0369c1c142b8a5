use Rattle.std.proofs.Common.{[], refl, Some}
use Rattle.std.proofs.KnownBytes.{Keeps-refl}
use Rattle.script_run.specs.Seen.{SeenAll, SinkSeen, SourceSeen, Told, seen_of, sink_seen, source_seen, told_of}
use Rattle.cube_cli.specs.declared.command.Command.TheVariants.{Store}
use Rattle.cube_cli.specs.declared.command.StoreCommand.TheVariants.{Init}
use Rattle.cube_cli.specs.Doing.{Fits, doing_of, ends_of}
use Rattle.cube_cli.specs.End.{SaysOf}
use Rattle.cube_cli.proofs.First.{has_cube}
use Rattle.cube_cli.proofs.Keepers.{same_told, since_load}
use Rattle.cube_cli.proofs.Known.{given_empty, given_some}
use Rattle.cube_cli.proofs.Making.{init_not_loaded}
use Rattle.cube_cli.proofs.Names.{loaded_once, loaded_only, named_not}
use Rattle.cube_cli.proofs.init.init.Goals as goal

pub returns-then-is_empty-clause-says : goal.returns-then-is_empty-clause-says
returns-then-is_empty-clause-says g c =
    let source : SourceSeen = source_seen g.S.Source.tells c.args.source.now c.init_empty.new.source in
    let sink : SinkSeen = sink_seen g.K.Sink.tells c.args.out.now c.init_empty.new.out in
    let told : Told = told_of g.Q.Keeper.tells c.args.keeper.now in
    let loaded : Told = told_of g.Q.Keeper.tells c.load.new.self in
    let later : Told = told_of g.Q.Keeper.tells c.init_empty.new.keeper in
    since_load (λ keeper. SaysOf (Some (Store Init)) (record { source = source; sink = sink; keeper = keeper }) c.init_empty.result) told loaded later (g.Q.Keeper.tells c.args.keeper.now).faults (g.Q.Keeper.tells c.load.new.self).faults (g.Q.Keeper.tells c.init_empty.new.keeper).faults
    (same_told told loaded c.in-Ok.ensures.content c.in-Ok.ensures.journal) c.in-Ok.ensures.count
    (c.init_empty.ensures.says (given_empty told.content loaded.content c.in-Ok.content c.in-Ok.ensures.content c.in-Ok.ensures.given (c.is_empty-is_empty.ensures.0 c.if-is_empty.true)))

pub returns-else-is_empty-clause-says : goal.returns-else-is_empty-clause-says
returns-else-is_empty-clause-says g c =
    let seen : SeenAll = seen_of g.S.Source.tells g.K.Sink.tells g.Q.Keeper.tells c.args.source.now c.args.source.now c.args.out.now c.args.out.now c.args.keeper.now c.load.new.self in
    let before : Told = told_of g.Q.Keeper.tells c.args.keeper.now in
    let after : Told = told_of g.Q.Keeper.tells c.load.new.self in
    has_cube seen (record { nothing = record { wrote = Keeps-refl _; kept = same_told before after c.in-Ok.ensures.content c.in-Ok.ensures.journal }; read = Keeps-refl _ }) (ends_of (Some (Store Init))) (doing_of [] (Some (Store Init))) (Fits (Some (Store Init))) refl
    (record { read = refl; write = refl; keep = c.in-Ok.ensures.count })
    (given_some before.content c.in-Ok.content c.in-Ok.ensures.given (λ none. absurd (cc (c.is_empty-is_empty.ensures.1 none, c.if-is_empty.false))))

pub returns-in-Err-clause-says : goal.returns-in-Err-clause-says
returns-in-Err-clause-says g c =
    let seen : SeenAll = seen_of g.S.Source.tells g.K.Sink.tells g.Q.Keeper.tells c.args.source.now c.args.source.now c.args.out.now c.args.out.now c.args.keeper.now c.load.new.self in
    let before : Told = told_of g.Q.Keeper.tells c.args.keeper.now in
    let after : Told = told_of g.Q.Keeper.tells c.load.new.self in
    rw c.end_of_keep.ensures
    (init_not_loaded seen (record { read = record { read = Keeps-refl _; count = refl }; wrote = Keeps-refl _; write = refl }) c.in-Err.error (same_told before after c.in-Err.ensures.content c.in-Err.ensures.journal) c.in-Err.ensures.count)

pub returns-then-is_empty-clause-loaded : goal.returns-then-is_empty-clause-loaded
returns-then-is_empty-clause-loaded g c =
    let tells = g.Q.Keeper.tells in
    loaded_once c.args.name.now (tells c.args.keeper.now) (tells c.load.new.self) (tells c.init_empty.new.keeper) _ _ c.load.ensures.loaded c.in-Ok.ensures.named c.init_empty.ensures.stays_open

pub returns-else-is_empty-clause-loaded : goal.returns-else-is_empty-clause-loaded
returns-else-is_empty-clause-loaded g c =
    let tells = g.Q.Keeper.tells in
    loaded_only c.args.name.now (tells c.args.keeper.now) (tells c.load.new.self) _ _ c.load.ensures.loaded c.in-Ok.ensures.named

pub returns-in-Err-clause-loaded : goal.returns-in-Err-clause-loaded
returns-in-Err-clause-loaded g c =
    let tells = g.Q.Keeper.tells in
    let before : Told = told_of g.Q.Keeper.tells c.args.keeper.now in
    let after : Told = told_of g.Q.Keeper.tells c.load.new.self in
    let seen : SeenAll = seen_of g.S.Source.tells g.K.Sink.tells g.Q.Keeper.tells c.args.source.now c.args.source.now c.args.out.now c.args.out.now c.args.keeper.now c.load.new.self in
    rw c.end_of_keep.ensures
    (named_not c.args.name.now (tells c.args.keeper.now) (tells c.load.new.self) seen c.load.ensures.loaded
    (record { none = refl; left = record { nothing = record { wrote = Keeps-refl _; kept = same_told before after c.in-Err.ensures.content c.in-Err.ensures.journal }; read = Keeps-refl _ } }) c.in-Err.error c.in-Err.ensures.same_name)
