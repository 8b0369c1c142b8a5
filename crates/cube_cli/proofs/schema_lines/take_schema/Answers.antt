-- The lines that were taken tell the schema, or which of them is at fault.
use Rattle.std.proofs.Common.{ap, sym, ◌∙◌}
use Rattle.schema_text.specs.SchemaText.{BadLine, ReadSchema, schema_of}
use Rattle.script_run.specs.Seen.{SourceSeen, source_seen}
use Rattle.cube_cli.proofs.SchemaTold.{refuses_schema, takes_few, takes_schema}
use Rattle.cube_cli.proofs.schema_lines.take_schema.Goals as goal

pub returns-in-Ok-read_schema-clause-took : goal.returns-in-Ok-read_schema-clause-took
returns-in-Ok-read_schema-clause-took g c =
    let source : SourceSeen = source_seen g.S.Source.tells c.args.source.now c.take_lines.new.source in
    let read : ReadSchema = record { schema = c.in-Ok-read_schema.schema; size = c.in-Ok-read_schema.field-0-1 } in
    takes_schema source c.take_lines.new.input.pieces.room c.take_lines.new.input.lines.lines c.in-Ok.text.items read c.in-Ok.ensures.took
    (ap schema_of (sym c.deref.ensures.value) ∙ c.in-Ok-read_schema.ensures.read)

pub returns-in-Err-Bad-clause-none : goal.returns-in-Err-Bad-clause-none
returns-in-Err-Bad-clause-none g c =
    let source : SourceSeen = source_seen g.S.Source.tells c.args.source.now c.take_lines.new.source in
    let bad : BadLine = record { line = c.in-Err-Bad.line; reason = c.in-Err-Bad.code } in
    let took = c.in-Ok.ensures.took in (
      c.in-Ok.ensures.count,
      takes_few source c.take_lines.new.input.pieces.room c.take_lines.new.input.lines.lines c.in-Ok.text.items took,
      refuses_schema source c.take_lines.new.input.pieces.room c.take_lines.new.input.lines.lines c.in-Ok.text.items bad took
          (ap schema_of (sym c.deref.ensures.value) ∙ rw c.in-Err-Bad.field-0-is at c.in-Err-Bad.ensures.refused),
    )
