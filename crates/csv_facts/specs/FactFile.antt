-- A file of facts: how it is written, and what the records of any file say: facts, up to the first record that cannot be read.
use Rattle.std.specs.Prelude.{ℕ, ◌+◌, Bool, List, [], ◌∷◌, ◌++◌, length, map, not, ◌==◌, if◌then◌else◌, Some, None, codes, Result, Ok, Err}
use Rattle.std.specs.List.{list_all}
use Rattle.std.specs.Str.{bytes_eq, is_utf8}
use Rattle.std.specs.Cmp.Lexicographic.{pointwise}
use Rattle.cube_base.specs.declared.code.Code.{Code}
use Rattle.cube_base.specs.declared.code.Code.TheVariants as code
use Rattle.cube_model.specs.declared.edit.Fact.{Fact}
use Rattle.fact_records.specs.Fields.{fact_given}
use Rattle.schema_text.specs.Schema.{SchemaValue, shape_of}
use Rattle.fact_records.specs.declared.fact_seq.FactSeq.{FactSeq}
use Rattle.fact_fields.specs.FactRow.{record_of}
use Rattle.csv_facts.specs.RecordList.{records_text}

-- the names of the columns: the id's, those of the dimensions, those of the measures
abbrev pub header_of : SchemaValue → List (List ℕ)
header_of schema = codes "id" ∷ schema.names ++ map (λ m. m.name) schema.measures

-- the text of a file of facts: its header, then their records
unfoldable pub file_text : SchemaValue → List Fact → List ℕ
file_text schema facts = records_text (header_of schema ∷ map (record_of schema) facts)

abbrev pub is_header : SchemaValue → List (List ℕ) → Bool
is_header schema row = pointwise bytes_eq (header_of schema) row

-- the fact that a record gives, or the first code that holds
abbrev pub record_given : SchemaValue → List (List ℕ) → Result Fact Code
record_given schema row =
    if not (length row == length (header_of schema)) then Err code.Fields
    else (if not (list_all is_utf8 row) then Err code.Text else fact_given schema.dims (shape_of schema) row)

-- no facts, for a record that cannot be read
abbrev pub refused_at : ℕ → Code → FactSeq
refused_at index refusal = record { facts = []; bad = Some (record { index = index; code = refusal }) }

-- what stands before facts
abbrev pub seq_behind : List Fact → FactSeq → FactSeq
seq_behind facts seq = record { facts = facts ++ seq.facts; bad = seq.bad }

-- what the record of an index gives, before what the records after it do
abbrev pub seq_with : ℕ → Result Fact Code → FactSeq → FactSeq
seq_with index (Ok fact) later = seq_behind (fact ∷ []) later
seq_with index (Err refusal) later = refused_at index refusal

-- the facts of records, of which the first has this index
abbrev pub facts_from : SchemaValue → ℕ → List (List (List ℕ)) → FactSeq
facts_from schema index [] = record { facts = []; bad = None }
facts_from schema index (row ∷ rows) = seq_with index (record_given schema row) (facts_from schema (index + 1) rows)

-- the facts of a file: the first of its records is the header
abbrev pub facts_in : SchemaValue → List (List (List ℕ)) → FactSeq
facts_in schema [] = refused_at 0 code.Header
facts_in schema (first ∷ rows) = if is_header schema first then facts_from schema 1 rows else refused_at 0 code.Header
