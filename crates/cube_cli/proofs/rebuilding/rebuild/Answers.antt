use Rattle.std.proofs.Common.{◌≡◌, Some, refl}
use Rattle.std.proofs.KnownBytes.{Keeps-refl}
use Rattle.script_run.specs.Seen.{SeenAll, SinkSeen, Told, keeper_seen, sink_seen, told_of}
use Rattle.cube_cli.specs.declared.command.Command.TheVariants.{Store}
use Rattle.cube_cli.specs.declared.command.StoreCommand.TheVariants.{Rebuild}
use Rattle.cube_cli.specs.End.{SaysOf}
use Rattle.cube_cli.proofs.First.{left_all}
use Rattle.cube_cli.proofs.Keepers.{since_load, told_since}
use Rattle.cube_cli.proofs.Names.{loaded_once, named_at}
use Rattle.cube_cli.proofs.Opening.{holds_schema, opening_kept, rebuild_not_opened}
use Rattle.cube_cli.proofs.rebuilding.rebuild.Goals as goal

pub returns-in-Ok-clause-says : goal.returns-in-Ok-clause-says
returns-in-Ok-clause-says g c = λ source unread.
    let sink : SinkSeen = sink_seen g.K.Sink.tells c.args.out.now c.rebuild_store.new.out in
    let told : Told = told_of g.Q.Keeper.tells c.args.keeper.now in
    let loaded : Told = told_of g.Q.Keeper.tells c.open_store.new.keeper in
    let later : Told = told_of g.Q.Keeper.tells c.rebuild_store.new.keeper in
    let opened = c.in-Ok.ensures.opened in
    since_load (λ keeper. SaysOf (Some (Store Rebuild)) (record { source = source; sink = sink; keeper = keeper }) c.rebuild_store.result) told loaded later (g.Q.Keeper.tells c.args.keeper.now).faults (g.Q.Keeper.tells c.open_store.new.keeper).faults (g.Q.Keeper.tells c.rebuild_store.new.keeper).faults
    opened.kept opened.count
    (c.rebuild_store.ensures.says source unread (told_since told loaded (λ kept. c.in-Ok.content ≡ kept) opened.kept opened.told) (holds_schema c.in-Ok.schema c.in-Ok.content (keeper_seen g.Q.Keeper.tells c.args.keeper.now c.open_store.new.keeper) opened))

pub returns-in-Err-clause-says : goal.returns-in-Err-clause-says
returns-in-Err-clause-says g c = λ source unread.
    let seen : SeenAll = record { source = source; sink = sink_seen g.K.Sink.tells c.args.out.now c.args.out.now; keeper = keeper_seen g.Q.Keeper.tells c.args.keeper.now c.open_store.new.keeper } in
    rw c.end_of_open.ensures (rebuild_not_opened seen (record { read = unread; wrote = Keeps-refl _; write = refl }) c.in-Err.stop c.in-Err.ensures.not_opened)

pub returns-in-Ok-clause-loaded : goal.returns-in-Ok-clause-loaded
returns-in-Ok-clause-loaded g c = λ source unread.
    let tells = g.Q.Keeper.tells in
    loaded_once c.args.name.now (tells c.args.keeper.now) (tells c.open_store.new.keeper) (tells c.rebuild_store.new.keeper) _ _ c.open_store.ensures.loads c.in-Ok.ensures.named c.rebuild_store.ensures.stays_open

pub returns-in-Err-clause-loaded : goal.returns-in-Err-clause-loaded
returns-in-Err-clause-loaded g c = λ source unread.
    let tells = g.Q.Keeper.tells in
    let seen : SeenAll = record { source = source; sink = sink_seen g.K.Sink.tells c.args.out.now c.args.out.now; keeper = keeper_seen g.Q.Keeper.tells c.args.keeper.now c.open_store.new.keeper } in
    rw c.end_of_open.ensures
    (named_at c.args.name.now (tells c.args.keeper.now) (tells c.open_store.new.keeper) seen c.open_store.ensures.loads
    (record { none = refl; left = left_all seen (record { read = unread; wrote = Keeps-refl _; write = refl }) (opening_kept seen.keeper c.in-Err.stop c.in-Err.ensures.not_opened) }) c.in-Err.stop c.in-Err.ensures.named)
