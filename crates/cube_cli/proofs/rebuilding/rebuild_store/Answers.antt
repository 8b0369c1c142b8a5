use Rattle.std.proofs.Common.{refl}
use Rattle.std.proofs.KnownBytes.{Keeps-refl}
use Rattle.script_run.specs.Seen.{SeenAll, keeper_seen, sink_seen}
use Rattle.cube_cli.proofs.Opening.{rebuild_not_mended}
use Rattle.cube_cli.proofs.PutRight.{mending_of}
use Rattle.cube_cli.proofs.rebuilding.rebuild_store.Goals as goal

pub returns-in-Ok-clause-says : goal.returns-in-Ok-clause-says
returns-in-Ok-clause-says g c = λ source unread given holds.
    c.keep_mending.ensures.says source c.args.schema c.args.content unread given
    (mending_of c.in-Ok.mending c.args.schema c.policy-policy.result c.args.content c.policy-policy.ensures.policy holds c.in-Ok.ensures.batch c.in-Ok.ensures.facts c.in-Ok.ensures.rows c.in-Ok.ensures.mendable)

pub returns-in-Err-clause-says : goal.returns-in-Err-clause-says
returns-in-Err-clause-says g c = λ source unread given holds.
    let seen : SeenAll = record { source = source; sink = sink_seen g.K.Sink.tells c.args.out.now c.args.out.now; keeper = keeper_seen g.Q.Keeper.tells c.args.keeper.now c.args.keeper.now } in
    rw c.end_of_load.ensures
    (rebuild_not_mended seen (record { read = unread; wrote = Keeps-refl _; write = refl }) c.args.schema c.policy-policy.result c.args.content given holds c.policy-policy.ensures.policy (record { kept = refl; count = refl }) c.in-Err.fault c.in-Err.ensures.fault)
