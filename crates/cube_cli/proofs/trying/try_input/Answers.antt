-- The schema is taken, and the script behind it done; or nothing is done.
use Rattle.std.proofs.Common.{[], ap, refl, Some}
use Rattle.std.proofs.KnownBytes.{Keeps-refl}
use Rattle.schema_text.specs.Schema.{SchemaValue}
use Rattle.text_lines.specs.Pieces.{Held}
use Rattle.script_run.specs.Seen.{SeenAll, SourceSeen, sink_seen, source_seen}
use Rattle.cube_cli.specs.declared.command.Command.TheVariants.{Try}
use Rattle.cube_cli.specs.Doing.{Fits, doing_of, ends_of}
use Rattle.cube_cli.proofs.BeforeScript.{says_before}
use Rattle.cube_cli.proofs.First.{wants_memory}
use Rattle.cube_cli.proofs.ScriptEnds.{room_behind, says_script}
use Rattle.cube_cli.proofs.TakenEnds.{ends_both}
use Rattle.cube_cli.proofs.trying.try_input.Goals as goal

pub returns-in_default-clause-says : goal.returns-in_default-clause-says
returns-in_default-clause-says g c = λ keeper uncalled.
    let seen : SeenAll = record { source = source_seen g.S.Source.tells c.args.source.now c.args.source.now; sink = sink_seen g.K.Sink.tells c.args.out.now c.args.out.now; keeper = keeper } in
    wants_memory seen (record { nothing = record { wrote = Keeps-refl _; kept = uncalled.kept }; read = Keeps-refl _ }) (ends_of (Some Try)) (doing_of [] (Some Try)) (Fits (Some Try)) refl
    (record { read = refl; write = refl; keep = uncalled.count })

pub take_schema-requires-clause-pieces : goal.take_schema-requires-clause-pieces
take_schema-requires-clause-pieces g c = c.in-Ok.ensures.pieces

pub take_schema-requires-clause-lines : goal.take_schema-requires-clause-lines
take_schema-requires-clause-lines g c = ap (λ (h : Held). h.lines) c.in-Ok.ensures.lines

pub run_schema_script-requires-clause-short : goal.run_schema_script-requires-clause-short
run_schema_script-requires-clause-short g c =
    room_behind (source_seen g.S.Source.tells c.args.source.now c.take_schema.new.source) c.take_schema.new.input.pieces.room c.take_schema.new.input.lines.lines c.in-Ok-take_schema.schema
    c.in-Ok-take_schema.ensures.took

pub returns-in-Ok-take_schema-clause-says : goal.returns-in-Ok-take_schema-clause-says
returns-in-Ok-take_schema-clause-says g c = λ keeper uncalled.
    let first : SourceSeen = source_seen g.S.Source.tells c.args.source.now c.take_schema.new.source in
    let seen : SeenAll = record { source = source_seen g.S.Source.tells c.args.source.now c.run_schema_script.new.source; sink = sink_seen g.K.Sink.tells c.args.out.now c.run_schema_script.new.out; keeper = keeper } in
    let schema : SchemaValue = c.in-Ok-take_schema.schema in
    let took = c.in-Ok-take_schema.ensures.took in
    rw c.end_of_run.ensures
    (says_script first c.take_schema.new.input.pieces.room c.take_schema.new.input.lines.lines schema took c.in-Ok-take_schema.ensures.count seen uncalled refl refl c.run_schema_script.result
    (c.run_schema_script.ensures.ends _ took.held) c.run_schema_script.ensures.no_keep)

pub returns-in-Err-clause-says : goal.returns-in-Err-clause-says
returns-in-Err-clause-says g c = λ keeper uncalled.
    let seen : SeenAll = record { source = source_seen g.S.Source.tells c.args.source.now c.take_schema.new.source; sink = sink_seen g.K.Sink.tells c.args.out.now c.args.out.now; keeper = keeper } in
    rw c.end_of_head.ensures (says_before seen refl refl uncalled c.in-Err.stop c.in-Err.ensures.none)

pub returns-in-Ok-take_schema-clause-ended : goal.returns-in-Ok-take_schema-clause-ended
returns-in-Ok-take_schema-clause-ended g c =
    ends_both c.take_schema.new.input.pieces.is_ended (g.S.Source.tells c.args.source.now).ends (g.S.Source.tells c.take_schema.new.source).ends (g.S.Source.tells c.run_schema_script.new.source).ends
    c.in-Ok-take_schema.ensures.ends c.run_schema_script.ensures.ended
