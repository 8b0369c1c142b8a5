use Rattle.std.proofs.Common.{◌≡◌, ◌∙◌, Some, map, refl, string_bytes, subst, true}
use Rattle.std.proofs.KnownBytes.{Keeps-refl}
use Rattle.schema_text.specs.Schema.{weigh_of}
use Rattle.script_run.specs.Run.{state_of}
use Rattle.script_run.specs.Seen.{SeenAll, keeper_seen, sink_seen}
use Rattle.script_run.specs.Stream.{Ground}
use Rattle.cube_cli.specs.declared.command.Command.TheVariants.{Store}
use Rattle.cube_cli.specs.declared.command.StoreCommand.TheVariants.{Ask}
use Rattle.cube_cli.specs.Command.{joined}
use Rattle.cube_cli.specs.Doing.{Fits, doing_of, ends_of}
use Rattle.cube_cli.specs.End.{SaysAsked}
use Rattle.cube_cli.specs.RunEnd.{end_of_line}
use Rattle.cube_cli.proofs.Asked.{says_asked}
use Rattle.cube_cli.proofs.First.{wants_memory}
use Rattle.cube_cli.proofs.Running.{over_cube}
use Rattle.cube_cli.proofs.asking.ask_cube.Goals as goal

pub returns-clause-says : goal.returns-clause-says
returns-clause-says g c = λ source content unread given is.
    let cube = c.args.cube in
    let seen : SeenAll = record { source = source; sink = sink_seen g.K.Sink.tells c.args.out.now c.run_line.new.out; keeper = keeper_seen g.Q.Keeper.tells c.args.keeper.now c.run_line.new.keeper } in
    let ground : Ground = record { weigh = weigh_of cube.policy; schema = cube.schema; first = state_of cube; keeps = true } in
    let line : c.deref.result.now ≡ joined (map string_bytes c.args.words.now) = c.deref.ensures.value ∙ c.in-Ok.ensures in
    let told = c.run_line.ensures in
    rw c.end_of_line.ensures
    (subst (λ line. SaysAsked line (Some (Store Ask)) seen (end_of_line c.run_line.result)) line
    (says_asked c.deref.result.now content ground (over_cube cube content is) seen unread given is.sound c.run_line.result told.done told.broken told.kept told.stopped told.count told.cause told.other_cause))

-- it ran out of memory before anything was done
pub returns-in_default-clause-says : goal.returns-in_default-clause-says
returns-in_default-clause-says g c = λ source content unread given is.
    let seen : SeenAll = record { source = source; sink = sink_seen g.K.Sink.tells c.args.out.now c.args.out.now; keeper = keeper_seen g.Q.Keeper.tells c.args.keeper.now c.args.keeper.now } in
    wants_memory seen (record { nothing = record { wrote = Keeps-refl _; kept = refl }; read = unread.read }) (ends_of (Some (Store Ask))) (doing_of (joined (map string_bytes c.args.words.now)) (Some (Store Ask))) (Fits (Some (Store Ask))) refl
    (record { read = unread.count; write = refl; keep = refl })
