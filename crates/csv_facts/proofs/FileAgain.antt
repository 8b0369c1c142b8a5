-- A file that was written is read again.
use Rattle.std.proofs.Common.{◌≡◌, ℕ, true, List, [], ◌∷◌, ◌++◌, map, Some, None, refl, ap, ◌∙◌}
use Rattle.std.specs.Prelude.{All, codes}
use Rattle.std.specs.Cmp.Lexicographic.{pointwise}
use Rattle.std.specs.Str.{bytes_eq}
use Rattle.cube_model.specs.declared.edit.Fact.{Fact}
use Rattle.fact_records.specs.Valid.{IsFactOf}
use Rattle.schema_text.specs.Schema.{IsSchema, SchemaValue, shape_of}
use Rattle.fact_fields.specs.FactRow.{record_of}
use Rattle.fact_fields.proofs.NodesAgain.{bytes_eq-same}
use Rattle.csv.specs.Reading.{default_config, strip_bom}
use Rattle.csv.specs.Writing.{default_writer, read_back, row_text}
use Rattle.csv.specs.declared.parser.State.TheVariants as st
use Rattle.csv.proofs.OnLiterals.{csv_on_literals}
use Rattle.csv.proofs.RoundTrip.{read-write}
use Rattle.csv_facts.specs.FactFile.{facts_in, file_text, header_of}
use Rattle.csv_facts.specs.RecordList.{records_in, records_of, records_text}
use Rattle.csv_facts.proofs.FactsAgain.{facts-again}
use Rattle.csv_facts.proofs.FactsRead.{facts_in-header}
use Rattle.csv_facts.proofs.RecordsLeft.{records_from-end, records_in-next}

-- the records of a text are those that it was written of
records-again : (rows : List (List (List ℕ))) → records_in st.StartRecord (Some (records_text rows)) ≡ map read_back rows
records-again [] = records_from-end default_config 1
records-again (row ∷ rows) =
    records_in-next st.StartRecord (records_text (row ∷ rows)) (read_back row, st.StartRecord, records_text rows) (read-write row (records_text rows))
    ∙ ap (λ l. read_back row ∷ l) (records-again rows)

-- a text that begins with a letter has no mark in front
no_mark : (bytes : List ℕ) → strip_bom (105 ∷ bytes) ≡ 105 ∷ bytes
unfolding strip_bom
no_mark [] = refl
no_mark (b ∷ []) = refl
no_mark (b ∷ c ∷ bytes) = refl

header_first : (names : List (List ℕ)) (bytes : List ℕ) → strip_bom (row_text default_writer (codes "id" ∷ names) ++ bytes) ≡ row_text default_writer (codes "id" ∷ names) ++ bytes
unfolding csv_on_literals
header_first names bytes = no_mark _

-- a record is the same as itself
same : (fields : List (List ℕ)) → pointwise bytes_eq fields fields ≡ true
same [] = refl
same (field ∷ fields) = rw (bytes_eq-same field) (same fields)

-- each record has a field, and so is read as it was written
read_back-all : (schema : SchemaValue) (facts : List Fact) → map read_back (map (record_of schema) facts) ≡ map (record_of schema) facts
read_back-all schema [] = refl
read_back-all schema (fact ∷ facts) = ap (λ l. record_of schema fact ∷ l) (read_back-all schema facts)

pub file-again : (schema : SchemaValue) (facts : List Fact) → IsSchema schema → All (IsFactOf (shape_of schema) schema.dims) facts → facts_in schema (records_of (file_text schema facts)) ≡ record { facts = facts; bad = None }
unfolding file_text
file-again schema facts is valid =
    let header = header_of schema in
    let rows = map (record_of schema) facts in
    ap (λ bytes. facts_in schema (records_in st.StartRecord (Some bytes))) (header_first (schema.names ++ map (λ m. m.name) schema.measures) (records_text rows))
    ∙ ap (facts_in schema) (records-again (header ∷ rows) ∙ ap (λ l. header ∷ l) (read_back-all schema facts))
    ∙ facts_in-header schema (header ∷ rows) header rows refl (same header)
    ∙ facts-again schema 1 facts is valid
