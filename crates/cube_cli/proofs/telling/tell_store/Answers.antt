use Rattle.std.proofs.Common.{refl}
use Rattle.std.proofs.KnownBytes.{Keeps-refl}
use Rattle.cube_cli.specs.Steps.{IsCubeOf}
use Rattle.script_run.specs.Seen.{SeenAll, sink_seen}
use Rattle.cube_cli.proofs.Auditing.{loaded_cube}
use Rattle.cube_cli.proofs.Opening.{tell_not_loaded}
use Rattle.cube_cli.proofs.ToldTexts.{told}
use Rattle.cube_cli.proofs.telling.tell_store.Goals as goal

pub returns-in-Ok : goal.returns-in-Ok
returns-in-Ok g c = λ source keeper unread uncalled given holds.
    let seen : SeenAll = record { source = source; sink = sink_seen g.K.Sink.tells c.args.out.now c.write_told-told.new.out; keeper = keeper } in
    let cube = c.in-Ok.cube in
    let content = c.args.content.now in
    let is : IsCubeOf cube content = loaded_cube c.args.schema c.policy-policy.result content cube c.policy-policy.ensures.policy c.in-Ok.ensures.schema c.in-Ok.ensures.policy c.in-Ok.ensures.facts c.in-Ok.ensures.sound holds in
    rw c.end_of_write.ensures (told seen unread uncalled c.args.telling cube content is given c.write_told-told.result c.write_told-told.ensures)

pub returns-in-Err : goal.returns-in-Err
returns-in-Err g c = λ source keeper unread uncalled given holds.
    let seen : SeenAll = record { source = source; sink = sink_seen g.K.Sink.tells c.args.out.now c.args.out.now; keeper = keeper } in
    rw c.end_of_load.ensures
    (tell_not_loaded seen (record { read = unread; wrote = Keeps-refl _; write = refl }) c.args.schema c.policy-policy.result c.args.content.now given holds c.policy-policy.ensures.policy uncalled c.in-Err.fault c.in-Err.ensures.fault c.args.telling)
