-- The definitions compute what the text says.
use Rattle.std.proofs.Common.{refl}
use Rattle.std.specs.Char.{encode_utf8}
use Rattle.std.specs.Fmt.{digits}
use Rattle.std.specs.Str.{chars, is_utf8}
use Rattle.cube_model.specs.Tree.{is_leaf, is_numbered, leaves, parent, path}
use Rattle.schema_text.specs.SchemaText.{schema_of}
use Rattle.drill_run.specs.Space.{drill_schema}
use Rattle.drill_run.proofs.Reading.{read-once, read-or_refused}
use Rattle.drill_run.proofs.schema.read_drill_schema.Goals as goal

pub returns-in-Ok : goal.returns-in-Ok
unfolding schema_of is_utf8 chars encode_utf8 is_numbered path parent is_leaf leaves digits drill_schema
returns-in-Ok c = read-once c.in-Ok.schema drill_schema _ 1630 _ c.in-Ok.ensures.read refl

pub unreachable-requires : goal.unreachable-requires
unfolding schema_of is_utf8 chars encode_utf8 is_numbered path parent is_leaf leaves digits drill_schema
unreachable-requires c = read-or_refused _ (record { schema = drill_schema; size = 1630 }) _ (rw c.in-Err-Bad.field-0-is at c.in-Err-Bad.ensures.refused) refl
