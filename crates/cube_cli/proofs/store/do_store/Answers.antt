use Rattle.std.proofs.Common.{refl}
use Rattle.std.proofs.KnownBytes.{Keeps-refl}
use Rattle.script_run.specs.Seen.{SeenAll, seen_of}
use Rattle.cube_cli.proofs.Auditing.{loaded_cube}
use Rattle.cube_cli.proofs.Opening.{input_not_loaded}
use Rattle.cube_cli.proofs.store.do_store.Goals as goal

pub returns-in-Ok-clause-says : goal.returns-in-Ok-clause-says
returns-in-Ok-clause-says g c = λ given holds.
    c.do_cube.ensures.says c.args.content given
    (loaded_cube c.args.schema c.policy-policy.result c.args.content c.in-Ok.cube c.policy-policy.ensures.policy c.in-Ok.ensures.schema c.in-Ok.ensures.policy c.in-Ok.ensures.facts c.in-Ok.ensures.sound holds)

pub returns-in-Err-clause-says : goal.returns-in-Err-clause-says
returns-in-Err-clause-says g c = λ given holds.
    let seen : SeenAll = seen_of g.S.Source.tells g.K.Sink.tells g.Q.Keeper.tells c.args.source.now c.args.source.now c.args.out.now c.args.out.now c.args.keeper.now c.args.keeper.now in
    rw c.end_of_load.ensures
    (input_not_loaded seen (record { read = record { read = Keeps-refl _; count = refl }; wrote = Keeps-refl _; write = refl }) c.args.schema c.policy-policy.result c.args.content given holds c.policy-policy.ensures.policy (record { kept = refl; count = refl }) c.in-Err.fault c.in-Err.ensures.fault c.args.task)
