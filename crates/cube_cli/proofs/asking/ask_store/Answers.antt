use Rattle.std.proofs.Common.{map, refl, string_bytes}
use Rattle.std.proofs.KnownBytes.{Keeps-refl}
use Rattle.script_run.specs.Seen.{SeenAll, keeper_seen, sink_seen}
use Rattle.cube_cli.specs.Command.{joined}
use Rattle.cube_cli.proofs.Auditing.{loaded_cube}
use Rattle.cube_cli.proofs.Opening.{ask_not_loaded}
use Rattle.cube_cli.proofs.asking.ask_store.Goals as goal

pub returns-in-Ok-clause-says : goal.returns-in-Ok-clause-says
returns-in-Ok-clause-says g c = λ source unread given holds.
    c.ask_cube.ensures.says source c.args.content unread given
    (loaded_cube c.args.schema c.policy-policy.result c.args.content c.in-Ok.cube c.policy-policy.ensures.policy c.in-Ok.ensures.schema c.in-Ok.ensures.policy c.in-Ok.ensures.facts c.in-Ok.ensures.sound holds)

pub returns-in-Err-clause-says : goal.returns-in-Err-clause-says
returns-in-Err-clause-says g c = λ source unread given holds.
    let seen : SeenAll = record { source = source; sink = sink_seen g.K.Sink.tells c.args.out.now c.args.out.now; keeper = keeper_seen g.Q.Keeper.tells c.args.keeper.now c.args.keeper.now } in
    rw c.end_of_load.ensures
    (ask_not_loaded seen (record { read = unread; wrote = Keeps-refl _; write = refl }) c.args.schema c.policy-policy.result c.args.content given holds c.policy-policy.ensures.policy (record { kept = refl; count = refl }) c.in-Err.fault c.in-Err.ensures.fault (joined (map string_bytes c.args.words.now)))
