-- A text that is a schema and nothing else.
use Rattle.std.specs.Prelude.{◌≡◌, ℕ, ◌+◌, List, length, not, position, take, drop, ⊤, Option, Result, Ok, Err}
use Rattle.std.specs.Option.{option_map, option_map_or}
use Rattle.cube_base.specs.declared.code.Code.TheVariants as code
use Rattle.text_lines.specs.LineText.{is_skipped}
use Rattle.text_lines.specs.Text.{lines_of}
use Rattle.schema_text.specs.Schema.{SchemaValue}
use Rattle.schema_text.specs.SchemaText.{BadLine, ReadSchema, schema_of}
use Rattle.schema_text.specs.declared.schema.SchemaFault.{SchemaFault}
use Rattle.schema_text.specs.declared.schema.SchemaFault.TheVariants as schema_fault

-- the number of the first line after so many bytes of a text that is not skipped, of all its lines counted from 1
abbrev pub tail_line : List ℕ → ℕ → Option ℕ
tail_line text size = option_map (λ k. length (lines_of (take size text)) + k + 1) (position (λ line. not (is_skipped line)) (lines_of (drop size text)))

-- after a schema no line may follow that is not skipped
abbrev pub without_tail : List ℕ → Result ReadSchema BadLine → Result SchemaValue BadLine
without_tail text (Ok read) = option_map_or (λ line. Err (record { line = line; reason = code.Tail })) (tail_line text read.size) (Ok read.schema)
without_tail text (Err bad) = Err bad

-- the schema of a text that holds it alone, or the first line at fault
abbrev pub schema_alone : List ℕ → Result SchemaValue BadLine
schema_alone text = without_tail text (schema_of text)

-- why a text is not read as a schema alone; out of memory says nothing
abbrev pub HasCauseAlone : List ℕ → SchemaFault → Type 0
HasCauseAlone text (schema_fault.Bad line why) = schema_alone text ≡ Err (record { line = line; reason = why })
HasCauseAlone text schema_fault.Memory = ⊤
