use Rattle.std.proofs.Common.{◌≡◌, refl, sym, inl, Some}
use Rattle.std.proofs.KnownBytes.{Keeps-refl}
use Rattle.fact_keeper.specs.Batch.{empty_content}
use Rattle.fact_keeper.specs.declared.content.Stored.{Stored}
use Rattle.script_run.specs.Seen.{SeenAll, SinkSeen, SourceSeen, Told, keeper_seen, seen_of, sink_seen, source_seen, told_of}
use Rattle.cube_cli.specs.declared.command.Command.TheVariants.{Store}
use Rattle.cube_cli.specs.declared.command.StoreCommand.TheVariants.{Follow}
use Rattle.cube_cli.specs.declared.store.OpenStop.TheVariants as open_stop
use Rattle.cube_cli.specs.End.{SaysOf}
use Rattle.cube_cli.proofs.Keepers.{since_load, told_since}
use Rattle.cube_cli.proofs.First.{left_all}
use Rattle.cube_cli.proofs.FollowEnds.{base_in-empty}
use Rattle.cube_cli.proofs.Known.{told-weaker}
use Rattle.cube_cli.proofs.Names.{loaded_once, named_at}
use Rattle.cube_cli.proofs.Opening.{follow_not_opened, holds_schema, opening_kept}
use Rattle.cube_cli.proofs.following.follow.Goals as goal

pub returns-in-Ok-clause-says : goal.returns-in-Ok-clause-says
returns-in-Ok-clause-says g c =
    let source : SourceSeen = source_seen g.S.Source.tells c.args.source.now c.follow_store.new.source in
    let sink : SinkSeen = sink_seen g.K.Sink.tells c.args.out.now c.follow_store.new.out in
    let told : Told = told_of g.Q.Keeper.tells c.args.keeper.now in
    let loaded : Told = told_of g.Q.Keeper.tells c.open_store.new.keeper in
    let later : Told = told_of g.Q.Keeper.tells c.follow_store.new.keeper in
    let opened = c.in-Ok.ensures.opened in
    since_load (λ keeper. SaysOf (Some (Store Follow)) (record { source = source; sink = sink; keeper = keeper }) c.follow_store.result) told loaded later (g.Q.Keeper.tells c.args.keeper.now).faults (g.Q.Keeper.tells c.open_store.new.keeper).faults (g.Q.Keeper.tells c.follow_store.new.keeper).faults
    opened.kept opened.count
    (c.follow_store.ensures.says (told_since told loaded (λ kept. c.in-Ok.content ≡ kept) opened.kept opened.told) (holds_schema c.in-Ok.schema c.in-Ok.content (keeper_seen g.Q.Keeper.tells c.args.keeper.now c.open_store.new.keeper) opened))

-- there is nothing in the store
pub returns-in-Err-NoCube-clause-says : goal.returns-in-Err-NoCube-clause-says
returns-in-Err-NoCube-clause-says g c =
    let source : SourceSeen = source_seen g.S.Source.tells c.args.source.now c.follow_over.new.source in
    let sink : SinkSeen = sink_seen g.K.Sink.tells c.args.out.now c.follow_over.new.out in
    let told : Told = told_of g.Q.Keeper.tells c.args.keeper.now in
    let loaded : Told = told_of g.Q.Keeper.tells c.open_store.new.keeper in
    let later : Told = told_of g.Q.Keeper.tells c.follow_over.new.keeper in
    let none = rw c.in-Err-NoCube.field-0-is at c.in-Err-NoCube.ensures.not_opened in
    since_load (λ keeper. SaysOf (Some (Store Follow)) (record { source = source; sink = sink; keeper = keeper }) c.follow_over.result) told loaded later (g.Q.Keeper.tells c.args.keeper.now).faults (g.Q.Keeper.tells c.open_store.new.keeper).faults (g.Q.Keeper.tells c.follow_over.new.keeper).faults
    none.0 none.1
    (c.follow_over.ensures.says empty_content
    (told_since told loaded (λ kept. empty_content ≡ kept) none.0 (told-weaker told.content (λ kept. kept ≡ empty_content) (λ kept. empty_content ≡ kept) (λ kept is. sym is) none.2)) base_in-empty (inl refl))

-- or it is not loaded
pub returns-in-Err-Fault-clause-says : goal.returns-in-Err-Fault-clause-says
returns-in-Err-Fault-clause-says g c =
    let seen : SeenAll = seen_of g.S.Source.tells g.K.Sink.tells g.Q.Keeper.tells c.args.source.now c.args.source.now c.args.out.now c.args.out.now c.args.keeper.now c.open_store.new.keeper in
    follow_not_opened seen (record { read = record { read = Keeps-refl _; count = refl }; wrote = Keeps-refl _; write = refl }) open_stop.Fault (λ none. absurd (cc none))
    (rw c.in-Err-Fault.field-0-is at c.in-Err-Fault.ensures.not_opened)

pub returns-in-Err-Load-clause-says : goal.returns-in-Err-Load-clause-says
returns-in-Err-Load-clause-says g c =
    let seen : SeenAll = seen_of g.S.Source.tells g.K.Sink.tells g.Q.Keeper.tells c.args.source.now c.args.source.now c.args.out.now c.args.out.now c.args.keeper.now c.open_store.new.keeper in
    rw c.end_of_load.ensures
    (follow_not_opened seen (record { read = record { read = Keeps-refl _; count = refl }; wrote = Keeps-refl _; write = refl }) (open_stop.Load c.in-Err-Load.fault) (λ none. absurd (cc none))
    (rw c.in-Err-Load.field-0-is at c.in-Err-Load.ensures.not_opened))

pub returns-in-Ok-clause-loaded : goal.returns-in-Ok-clause-loaded
returns-in-Ok-clause-loaded g c =
    let tells = g.Q.Keeper.tells in
    let seen : SeenAll = seen_of g.S.Source.tells g.K.Sink.tells g.Q.Keeper.tells c.args.source.now c.follow_store.new.source c.args.out.now c.follow_store.new.out c.args.keeper.now c.follow_store.new.keeper in
    loaded_once c.args.name.now (tells c.args.keeper.now) (tells c.open_store.new.keeper) (tells c.follow_store.new.keeper) seen c.follow_store.result c.open_store.ensures.loads c.in-Ok.ensures.named c.follow_store.ensures.stays_open

pub returns-in-Err-NoCube-clause-loaded : goal.returns-in-Err-NoCube-clause-loaded
returns-in-Err-NoCube-clause-loaded g c =
    let tells = g.Q.Keeper.tells in
    let seen : SeenAll = seen_of g.S.Source.tells g.K.Sink.tells g.Q.Keeper.tells c.args.source.now c.follow_over.new.source c.args.out.now c.follow_over.new.out c.args.keeper.now c.follow_over.new.keeper in
    loaded_once c.args.name.now (tells c.args.keeper.now) (tells c.open_store.new.keeper) (tells c.follow_over.new.keeper) seen c.follow_over.result c.open_store.ensures.loads (rw c.in-Err-NoCube.field-0-is at c.in-Err-NoCube.ensures.named) c.follow_over.ensures.stays_open

pub returns-in-Err-Fault-clause-loaded : goal.returns-in-Err-Fault-clause-loaded
returns-in-Err-Fault-clause-loaded g c =
    let tells = g.Q.Keeper.tells in
    let seen : SeenAll = seen_of g.S.Source.tells g.K.Sink.tells g.Q.Keeper.tells c.args.source.now c.args.source.now c.args.out.now c.args.out.now c.args.keeper.now c.open_store.new.keeper in
    let kept = opening_kept seen.keeper open_stop.Fault (rw c.in-Err-Fault.field-0-is at c.in-Err-Fault.ensures.not_opened) in
    named_at c.args.name.now (tells c.args.keeper.now) (tells c.open_store.new.keeper) seen c.open_store.ensures.loads
    (record { none = refl; left = left_all seen (record { read = record { read = Keeps-refl _; count = refl }; wrote = Keeps-refl _; write = refl }) kept }) open_stop.Fault
    (rw c.in-Err-Fault.field-0-is at c.in-Err-Fault.ensures.named)

pub returns-in-Err-Load-clause-loaded : goal.returns-in-Err-Load-clause-loaded
returns-in-Err-Load-clause-loaded g c =
    let tells = g.Q.Keeper.tells in
    let seen : SeenAll = seen_of g.S.Source.tells g.K.Sink.tells g.Q.Keeper.tells c.args.source.now c.args.source.now c.args.out.now c.args.out.now c.args.keeper.now c.open_store.new.keeper in
    let kept = opening_kept seen.keeper (open_stop.Load c.in-Err-Load.fault) (rw c.in-Err-Load.field-0-is at c.in-Err-Load.ensures.not_opened) in
    rw c.end_of_load.ensures
    (named_at c.args.name.now (tells c.args.keeper.now) (tells c.open_store.new.keeper) seen c.open_store.ensures.loads
    (record { none = refl; left = left_all seen (record { read = record { read = Keeps-refl _; count = refl }; wrote = Keeps-refl _; write = refl }) kept }) (open_stop.Load c.in-Err-Load.fault)
    (rw c.in-Err-Load.field-0-is at c.in-Err-Load.ensures.named))
