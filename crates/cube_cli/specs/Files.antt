-- Files of facts: what one does over the facts of a store, and what is reported of these.
use Rattle.std.specs.Prelude.{◌≡◌, ◌==◌, ℕ, ◌≤◌, nat_lt, List, [], ◌∷◌, length, codes, if◌then◌else◌, Option, Some, None}
use Rattle.std.specs.Fmt.{decimal}
use Rattle.text_lines.specs.Text.{line_text}
use Rattle.cube_model.specs.declared.edit.Fact.{Fact}
use Rattle.cube_model.specs.Allocation.{Policy, extended, row_count}
use Rattle.cube_model.specs.Difference.{refreshed}
use Rattle.cube_model.specs.Limits.{MAX_ROWS}
use Rattle.cube_model.specs.Tree.{Dimension}
use Rattle.fact_keeper.specs.declared.content.Batch.{Batch}
use Rattle.fact_keeper.specs.declared.content.Stored.{Stored}
use Rattle.fact_records.specs.New.{put_all}
use Rattle.fact_records.specs.declared.fact_seq.BadRecord.{BadRecord as RecordAt}
use Rattle.fact_records.specs.declared.fact_seq.FactSeq.{FactSeq}
use Rattle.fact_records.specs.RefusedRecord.{refused_in}
use Rattle.edit_plan.specs.Whole.{difference_with}
use Rattle.schema_text.specs.Schema.{SchemaValue, shape_of}
use Rattle.schema_text.specs.SchemaText.{schema_text}
use Rattle.store_audit.specs.Mending.{changed_by, mended_batch}
use Rattle.store_audit.specs.Sound.{rows_counted}
use Rattle.csv_facts.specs.FactFile.{facts_in, file_text}
use Rattle.csv_facts.specs.ExtendedRow.{extended_text}
use Rattle.csv_facts.specs.RecordList.{records_of}
use Rattle.cube_cli.specs.declared.telling.Telling.{Telling}
use Rattle.cube_cli.specs.declared.telling.Telling.TheVariants.{Check, Export, Schema, Rows}
use Rattle.cube_cli.specs.declared.end.End.{End}
use Rattle.cube_cli.specs.declared.end.End.TheVariants.{BadRecord, ImportRows}

-- a line of a word and two numbers
abbrev pub count_line : List ℕ → ℕ → ℕ → List ℕ
count_line word first second = line_text word (decimal first ∷ decimal second ∷ [])

-- What is reported of facts over a schema. `check` gives their number and that of their rows, `export` their file,
-- `schema` the one text of the schema, and `rows` the file of their rows.
abbrev pub text_told : Telling → Policy → SchemaValue → List Fact → List ℕ
text_told Check policy schema facts = count_line (codes "sound") (length facts) (row_count (extended policy schema.dims facts))
text_told Export policy schema facts = file_text schema facts
text_told Schema policy schema facts = schema_text schema
text_told Rows policy schema facts = extended_text schema (extended policy schema.dims facts)

-- What is kept where the rows of a content are put right: nothing where there is nothing to change. And what is
-- reported: the number of facts, that of their rows, and that of the entries of rows that are dropped or put.
abbrev pub mending_batches : Policy → List Dimension → Stored → List Batch
mending_batches policy dims content = if changed_by (mended_batch policy dims content) == 0 then [] else mended_batch policy dims content ∷ []

abbrev pub rebuilt_line : Policy → List Dimension → Stored → List ℕ
rebuilt_line policy dims content =
    line_text (codes "rebuilt") (decimal (length content.facts) ∷ decimal (rows_counted policy dims content) ∷ decimal (changed_by (mended_batch policy dims content)) ∷ [])

-- the facts of a file, and the record that could not be read
abbrev pub seq_of : SchemaValue → List ℕ → FactSeq
seq_of schema file = facts_in schema (records_of file)

-- facts with those of a file
abbrev pub facts_with_file : SchemaValue → List Fact → List ℕ → List Fact
facts_with_file schema facts file = put_all (seq_of schema file).facts facts

-- the first record of a file that is refused over facts
abbrev pub refused_over : SchemaValue → List Fact → List ℕ → Option RecordAt
refused_over schema facts file = refused_in (shape_of schema) schema.dims facts (seq_of schema file)

-- how many rows all of them have
abbrev pub row_count_with_file : Policy → SchemaValue → List Fact → List ℕ → ℕ
row_count_with_file policy schema facts file = row_count (extended policy schema.dims (facts_with_file schema facts file))

-- the batch of a file, and the reply to it: the number of its facts, and how many facts are new or have another allocation than before
abbrev pub import_batch : Policy → SchemaValue → List Fact → List ℕ → Batch
import_batch policy schema facts file = difference_with policy schema.dims (seq_of schema file).facts facts

abbrev pub imported_line : Policy → SchemaValue → List Fact → List ℕ → List ℕ
imported_line policy schema facts file = count_line (codes "imported") (length (seq_of schema file).facts) (length (refreshed policy schema.dims facts (facts_with_file schema facts file)))

-- No record of a file is refused, and there are not too many rows.
pub record IsAccepted (policy : Policy) (schema : SchemaValue) (facts : List Fact) (file : List ℕ) : Type 0 where
  pub accepted : refused_over schema facts file ≡ None
  pub few : row_count_with_file policy schema facts file ≤ MAX_ROWS

-- the end of a file that is not accepted: its first record that is refused, or else the number of rows that would be too many
abbrev pub refused_file : Option RecordAt → ℕ → Option End
refused_file (Some bad) rows = Some (BadRecord bad)
refused_file None rows = if nat_lt MAX_ROWS rows then Some (ImportRows rows) else None
