-- A text that holds a schema alone, and the schema.
use Rattle.std.proofs.Common.{◌≡◌, ℕ, ◌+◌, List, [], length, refl, ap, sym, ◌∙◌, subst, append-nil, take, arith, Option, Some, None, Result, Ok, Err}
use Rattle.std.specs.Prelude.{not, position}
use Rattle.std.specs.Option.{option_map, option_map_or}
use Rattle.std.proofs.lemmas.List.{drop_all}
use Rattle.cube_base.specs.declared.code.Code.TheVariants as code
use Rattle.text_lines.specs.LineText.{is_skipped}
use Rattle.text_lines.specs.Text.{lines_of}
use Rattle.schema_text.specs.Schema.{IsSchema, SchemaValue}
use Rattle.schema_text.specs.SchemaText.{BadLine, ReadSchema, schema_of, schema_text}
use Rattle.schema_text.proofs.ReadsAgain.{reads_again}
use Rattle.cube_cli.specs.SchemaAlone.{schema_alone, tail_line, without_tail}
use Rattle.cube_cli.proofs.SchemaTrees.{schema_of-trees}
use Rattle.store_law.proofs.Drafted.{schema_of-schema}

-- the text of a schema is read as that schema alone
pub text-alone : (schema : SchemaValue) → IsSchema schema → schema_alone (schema_text schema) ≡ Ok schema
text-alone schema is =
    let text = schema_text schema in
    let read : schema_of text ≡ Ok (record { schema = schema; size = length text }) = ap schema_of (sym (append-nil text)) ∙ reads_again schema is [] in
    let none : tail_line text (length text) ≡ None = ap (λ left. option_map (λ k. length (lines_of (take (length text) text)) + k + 1) (position (λ line. not (is_skipped line)) (lines_of left))) (drop_all (length text) text (omega arith)) in
    ap (without_tail text) read ∙ ap (λ found. option_map_or {U = Result SchemaValue BadLine} (λ line. Err (record { line = line; reason = code.Tail })) found (Ok schema)) none

-- a schema that a text holds alone is one
pub alone-schema : (text : List ℕ) (schema : SchemaValue) → schema_alone text ≡ Ok schema → IsSchema schema
alone-schema text schema alone = by_read (schema_of text) refl alone
  where
    by_tail : (read : ReadSchema) (tail : Option ℕ) → IsSchema read.schema → option_map_or {U = Result SchemaValue BadLine} (λ line. Err (record { line = line; reason = code.Tail })) tail (Ok read.schema) ≡ Ok schema → IsSchema schema
    by_tail read (Some line) is e = cc
    by_tail read None is e =
        let same : read.schema ≡ schema = cc in
        subst IsSchema same is

    by_read : (read : Result ReadSchema BadLine) → schema_of text ≡ read → without_tail text read ≡ Ok schema → IsSchema schema
    by_read (Err bad) is e = cc
    by_read (Ok read) is e = by_tail read (tail_line text read.size) (schema_of-schema text read is (schema_of-trees text read is)) e
