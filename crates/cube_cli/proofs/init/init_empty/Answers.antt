use Rattle.std.proofs.Common.{◌≡◌, Ok, refl, ap, subst, sym, ◌∙◌}
use Rattle.std.proofs.KnownBytes.{Keeps-refl}
use Rattle.script_run.specs.Seen.{SeenAll, seen_of, source_seen}
use Rattle.cube_cli.specs.SchemaAlone.{HasCauseAlone, schema_alone}
use Rattle.cube_cli.proofs.Making.{init_refused, init_stopped}
use Rattle.cube_cli.proofs.init.init_empty.Goals as goal

pub returns-in-Ok-read_schema_alone-clause-says : goal.returns-in-Ok-read_schema_alone-clause-says
returns-in-Ok-read_schema_alone-clause-says g c = λ empty.
    let alone : schema_alone c.in-Ok.input.items ≡ Ok c.in-Ok-read_schema_alone.schema = ap schema_alone (sym c.deref.ensures.value) ∙ c.in-Ok-read_schema_alone.ensures.read in
    c.init_schema.ensures.says (source_seen g.S.Source.tells c.args.source.now c.take_input.new.source) c.in-Ok.input.items c.in-Ok.ensures.whole c.in-Ok.ensures.count alone empty

pub returns-in-Err-clause-says : goal.returns-in-Err-clause-says
returns-in-Err-clause-says g c = λ empty.
    let seen : SeenAll = seen_of g.S.Source.tells g.K.Sink.tells g.Q.Keeper.tells c.args.source.now c.take_input.new.source c.args.out.now c.args.out.now c.args.keeper.now c.args.keeper.now in
    rw c.end_of_stop.ensures (init_stopped seen empty c.in-Err.stop refl refl (record { wrote = Keeps-refl _; kept = refl }) c.in-Err.ensures.stopped)

pub returns-clause-says : goal.returns-clause-says
returns-clause-says g c = λ empty.
    let seen : SeenAll = seen_of g.S.Source.tells g.K.Sink.tells g.Q.Keeper.tells c.args.source.now c.take_input.new.source c.args.out.now c.args.out.now c.args.keeper.now c.args.keeper.now in
    rw c.end_of_schema.ensures
    (init_refused seen empty c.in-Ok.input.items c.in-Ok.ensures.whole c.in-Ok.ensures.count refl refl (record { wrote = Keeps-refl _; kept = refl }) c.in-Err-read_schema_alone.fault
    (subst (λ text. HasCauseAlone text c.in-Err-read_schema_alone.fault) c.deref.ensures.value c.in-Err-read_schema_alone.ensures.refused))
