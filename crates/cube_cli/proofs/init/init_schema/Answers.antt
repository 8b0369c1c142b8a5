use Rattle.std.proofs.Common.{refl}
use Rattle.std.proofs.KnownBytes.{Keeps-refl}
use Rattle.script_run.specs.Seen.{SeenAll, keeper_seen, sink_seen}
use Rattle.cube_cli.proofs.Making.{init_kept, init_not_kept}
use Rattle.cube_cli.proofs.init.init_schema.Goals as goal

pub returns-in-Ok-clause-says : goal.returns-in-Ok-clause-says
returns-in-Ok-clause-says g c = λ source input taken read alone empty.
    let seen : SeenAll = record { source = source; sink = sink_seen g.K.Sink.tells c.args.out.now c.write_line.new.out; keeper = keeper_seen g.Q.Keeper.tells c.args.keeper.now c.keep_schema-kept.new.keeper } in
    rw c.end_of_write.ensures (init_kept seen empty input taken read c.args.schema alone c.write_line.result c.in-Ok.ensures.count c.in-Ok.ensures.kept c.write_line.ensures)

pub returns-in-Err-clause-says : goal.returns-in-Err-clause-says
returns-in-Err-clause-says g c = λ source input taken read alone empty.
    let seen : SeenAll = record { source = source; sink = sink_seen g.K.Sink.tells c.args.out.now c.args.out.now; keeper = keeper_seen g.Q.Keeper.tells c.args.keeper.now c.keep_schema-kept.new.keeper } in
    rw c.end_of_keep.ensures
    (init_not_kept seen empty input taken read c.args.schema alone c.in-Err.error c.in-Err.ensures.count refl (record { wrote = Keeps-refl _; kept = c.in-Err.ensures.not_kept }))
