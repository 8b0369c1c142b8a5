use Rattle.std.proofs.Common.{◌≡◌, [], true, refl, ap, subst, Some}
use Rattle.std.proofs.KnownBytes.{Keeps-refl}
use Rattle.text_lines.specs.Input.{INPUT_LIMIT}
use Rattle.text_lines.specs.Pieces.{Held, pieces_of}
use Rattle.text_lines.specs.Reading.{Reading}
use Rattle.schema_text.specs.Schema.{weigh_of}
use Rattle.script_run.specs.Run.{state_of}
use Rattle.script_run.specs.Stream.{EndsFrom, EndsStream, Ground}
use Rattle.script_run.specs.Seen.{SeenAll, seen_of}
use Rattle.cube_cli.specs.declared.command.Command.TheVariants.{Store}
use Rattle.cube_cli.specs.declared.command.StoreCommand.TheVariants.{Input}
use Rattle.cube_cli.specs.declared.store.InputTask.TheVariants.{Run}
use Rattle.cube_cli.specs.Doing.{Fits, doing_of, ends_of}
use Rattle.cube_cli.proofs.First.{wants_memory}
use Rattle.cube_cli.proofs.Running.{over_cube, says_stream}
use Rattle.cube_cli.proofs.store.run_over.Given.{Over}
use Rattle.cube_cli.proofs.store.run_over.Goals as goal

-- the script is done on what the cube stands at
abbrev on : (g : Over) (c : goal.After-end_of_run g) → Ground
on g c = record { weigh = weigh_of c.args.cube.policy; schema = c.args.cube.schema; first = state_of c.args.cube; keeps = true }

abbrev seen : (g : Over) (c : goal.After-end_of_run g) → SeenAll
seen g c = seen_of g.S.Source.tells g.K.Sink.tells g.Q.Keeper.tells c.args.source.now c.run_stream.new.source c.args.out.now c.run_stream.new.out c.args.keeper.now c.run_stream.new.keeper

-- nothing was taken before
streamed : (g : Over) (c : goal.After-end_of_run g) → EndsStream (on g c) [] INPUT_LIMIT (seen g c) c.run_stream.result
streamed g c =
    let none : c.in-Ok.input.lines.lines ≡ pieces_of [] = ap (λ (held : Held). held.lines) c.in-Ok.ensures.lines in
    let all : c.in-Ok.input.pieces.room ≡ INPUT_LIMIT = ap (λ (reading : Reading). reading.room) c.in-Ok.ensures.pieces in
    subst (λ room. EndsStream (on g c) [] room (seen g c) c.run_stream.result) all (c.run_stream.ensures.ends [] none)

pub returns-clause-says : goal.returns-clause-says
returns-clause-says g c = λ content given is.
    rw c.end_of_run.ensures
    (says_stream content (on g c) (over_cube c.args.cube content is) (seen g c) given is.sound c.run_stream.result (streamed g c) (c.run_stream.ensures.count refl))

-- it ran out of memory before anything was done
pub returns-in_default-clause-says : goal.returns-in_default-clause-says
returns-in_default-clause-says g c = λ content given is.
    let seen : SeenAll = seen_of g.S.Source.tells g.K.Sink.tells g.Q.Keeper.tells c.args.source.now c.args.source.now c.args.out.now c.args.out.now c.args.keeper.now c.args.keeper.now in
    wants_memory seen (record { nothing = record { wrote = Keeps-refl _; kept = refl }; read = Keeps-refl _ }) (ends_of (Some (Store (Input Run)))) (doing_of [] (Some (Store (Input Run)))) (Fits (Some (Store (Input Run)))) refl
    (record { read = refl; write = refl; keep = refl })

pub returns-clause-ended : goal.returns-clause-ended
returns-clause-ended g c =
    subst (λ is_ended. EndsFrom is_ended (g.S.Source.tells c.args.source.now).ends (g.S.Source.tells c.run_stream.new.source).ends) (ap (λ (reading : Reading). reading.is_ended) c.in-Ok.ensures.pieces) c.run_stream.ensures.ended
