use Rattle.std.proofs.Common.{refl, subst, sym}
use Rattle.std.proofs.KnownBytes.{Keeps-refl}
use Rattle.text_lines.specs.Input.{INPUT_LIMIT, Taken}
use Rattle.script_run.specs.Seen.{SeenAll, SourceSeen, seen_of, source_seen}
use Rattle.cube_cli.proofs.Putting.{import_stopped}
use Rattle.cube_cli.proofs.store.import_over.Goals as goal

pub returns-in-Ok-clause-says : goal.returns-in-Ok-clause-says
returns-in-Ok-clause-says g c = λ content given is.
    let source : SourceSeen = source_seen g.S.Source.tells c.args.source.now c.take_input.new.source in
    let taken : Taken INPUT_LIMIT source.left source.left_after c.deref.result.now = subst (λ file. Taken INPUT_LIMIT source.left source.left_after file) (sym c.deref.ensures.value) c.in-Ok.ensures.whole in
    c.import_file.ensures.says source content taken c.in-Ok.ensures.count given is

pub returns-in-Err-clause-says : goal.returns-in-Err-clause-says
returns-in-Err-clause-says g c = λ content given is.
    let seen : SeenAll = seen_of g.S.Source.tells g.K.Sink.tells g.Q.Keeper.tells c.args.source.now c.take_input.new.source c.args.out.now c.args.out.now c.args.keeper.now c.args.keeper.now in
    rw c.end_of_stop.ensures (import_stopped c.args.cube content is seen given c.in-Err.stop refl refl (record { wrote = Keeps-refl _; kept = refl }) c.in-Err.ensures.stopped)
