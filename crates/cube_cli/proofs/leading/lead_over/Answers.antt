use Rattle.std.proofs.Common.{◌≡◌, [], refl, ap, Some}
use Rattle.std.proofs.KnownBytes.{Keeps-refl}
use Rattle.schema_text.specs.Schema.{weigh_of}
use Rattle.script_run.specs.Run.{state_of}
use Rattle.script_run.specs.Seen.{SeenAll, seen_of}
use Rattle.feed_run.specs.Leading.{Leader}
use Rattle.cube_cli.specs.declared.command.Command.TheVariants.{Store}
use Rattle.cube_cli.specs.declared.command.StoreCommand.TheVariants.{Input}
use Rattle.cube_cli.specs.declared.store.InputTask.TheVariants.{Lead}
use Rattle.cube_cli.specs.Doing.{Fits, doing_of, ends_of}
use Rattle.cube_cli.proofs.First.{wants_memory}
use Rattle.cube_cli.proofs.LeadEnds.{says_led}
use Rattle.cube_cli.proofs.Running.{over_cube}
use Rattle.cube_cli.proofs.leading.lead_over.Goals as goal

pub returns-clause-says : goal.returns-clause-says
returns-clause-says g c = λ content given is.
    let seen : SeenAll = seen_of g.S.Source.tells g.K.Sink.tells g.Q.Keeper.tells c.args.source.now c.lead_stream.new.source c.args.out.now c.lead_stream.new.out c.args.keeper.now c.lead_stream.new.keeper in
    let leader : Leader = record { weigh = weigh_of c.args.cube.policy; schema = c.args.cube.schema; first = state_of c.args.cube } in
    rw c.end_of_run.ensures (says_led content leader (over_cube c.args.cube content is) seen given is.sound c.lead_stream.result c.lead_stream.ensures.ends)

-- it ran out of memory before anything was done
pub returns-in_default-clause-says : goal.returns-in_default-clause-says
returns-in_default-clause-says g c = λ content given is.
    let seen : SeenAll = seen_of g.S.Source.tells g.K.Sink.tells g.Q.Keeper.tells c.args.source.now c.args.source.now c.args.out.now c.args.out.now c.args.keeper.now c.args.keeper.now in
    wants_memory seen (record { nothing = record { wrote = Keeps-refl _; kept = refl }; read = Keeps-refl _ }) (ends_of (Some (Store (Input Lead)))) (doing_of [] (Some (Store (Input Lead)))) (Fits (Some (Store (Input Lead)))) refl
    (record { read = refl; write = refl; keep = refl })
