use Rattle.std.proofs.Common.{refl}
use Rattle.std.proofs.KnownBytes.{Keeps-refl}
use Rattle.script_run.specs.Seen.{KeeperSeen, SeenAll, keeper_seen, sink_seen}
use Rattle.cube_cli.proofs.First.{left_all}
use Rattle.cube_cli.proofs.Names.{loaded_only, named_at}
use Rattle.cube_cli.proofs.Opening.{holds_schema, opening_kept, tell_not_opened}
use Rattle.cube_cli.proofs.telling.tell.Goals as goal

pub returns-in-Ok-clause-says : goal.returns-in-Ok-clause-says
returns-in-Ok-clause-says g c = λ source unread.
    let keeper : KeeperSeen = keeper_seen g.Q.Keeper.tells c.args.keeper.now c.open_store.new.keeper in
    let opened = c.in-Ok.ensures.opened in
    c.tell_store.ensures source keeper unread (record { kept = opened.kept; count = opened.count }) opened.told (holds_schema c.in-Ok.schema c.in-Ok.content keeper opened)

pub returns-in-Err-clause-says : goal.returns-in-Err-clause-says
returns-in-Err-clause-says g c = λ source unread.
    let seen : SeenAll = record { source = source; sink = sink_seen g.K.Sink.tells c.args.out.now c.args.out.now; keeper = keeper_seen g.Q.Keeper.tells c.args.keeper.now c.open_store.new.keeper } in
    rw c.end_of_open.ensures (tell_not_opened c.args.telling seen (record { read = unread; wrote = Keeps-refl _; write = refl }) c.in-Err.stop c.in-Err.ensures.not_opened)

pub returns-in-Ok-clause-loaded : goal.returns-in-Ok-clause-loaded
returns-in-Ok-clause-loaded g c = λ source unread.
    let tells = g.Q.Keeper.tells in
    loaded_only c.args.name.now (tells c.args.keeper.now) (tells c.open_store.new.keeper) _ _ c.open_store.ensures.loads c.in-Ok.ensures.named

pub returns-in-Err-clause-loaded : goal.returns-in-Err-clause-loaded
returns-in-Err-clause-loaded g c = λ source unread.
    let tells = g.Q.Keeper.tells in
    let seen : SeenAll = record { source = source; sink = sink_seen g.K.Sink.tells c.args.out.now c.args.out.now; keeper = keeper_seen g.Q.Keeper.tells c.args.keeper.now c.open_store.new.keeper } in
    rw c.end_of_open.ensures
    (named_at c.args.name.now (tells c.args.keeper.now) (tells c.open_store.new.keeper) seen c.open_store.ensures.loads
    (record { none = refl; left = left_all seen (record { read = unread; wrote = Keeps-refl _; write = refl }) (opening_kept seen.keeper c.in-Err.stop c.in-Err.ensures.not_opened) }) c.in-Err.stop c.in-Err.ensures.named)
