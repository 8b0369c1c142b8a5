-- Facts that were written are read again.
use Rattle.std.proofs.Common.{◌≡◌, ℕ, ◌+◌, true, List, [], ◌∷◌, map, None, Ok, refl, ◌∙◌}
use Rattle.std.specs.Prelude.{All}
use Rattle.std.specs.List.{list_all}
use Rattle.std.specs.Str.{is_utf8}
use Rattle.std.proofs.lemmas.List.Elements.{All-head, All-tail}
use Rattle.cube_model.specs.declared.edit.Fact.{Fact}
use Rattle.fact_records.specs.Valid.{IsFactOf}
use Rattle.schema_text.specs.Schema.{IsSchema, SchemaValue, shape_of}
use Rattle.schema_text.proofs.WrittenLines.{IsField}
use Rattle.fact_fields.specs.FactRow.{record_of}
use Rattle.fact_fields.proofs.FactsAgain.{fact-again, length-record_of, record-fields}
use Rattle.csv_facts.specs.FactFile.{facts_from, record_given}
use Rattle.csv_facts.proofs.FactsRead.{given-fact}

-- fields of lines are UTF-8
fields-utf8 : (fields : List (List ℕ)) → All IsField fields → list_all is_utf8 fields ≡ true
fields-utf8 [] are = refl
fields-utf8 (field ∷ fields) are = rw ((All-head IsField field fields are).utf8, fields-utf8 fields (All-tail IsField field fields are)) refl

-- the record of a fact gives it
record-again : (schema : SchemaValue) (fact : Fact) → IsSchema schema → IsFactOf (shape_of schema) schema.dims fact → record_given schema (record_of schema fact) ≡ Ok fact
record-again schema fact is valid =
    given-fact schema (record_of schema fact) (length-record_of schema fact is valid) (fields-utf8 (record_of schema fact) (record-fields schema fact is valid)) ∙ fact-again schema fact is valid

-- and all facts
pub facts-again : (schema : SchemaValue) (index : ℕ) (facts : List Fact) → IsSchema schema → All (IsFactOf (shape_of schema) schema.dims) facts → facts_from schema index (map (record_of schema) facts) ≡ record { facts = facts; bad = None }
facts-again schema index [] is valid = refl
facts-again schema index (fact ∷ facts) is valid =
    let first = record-again schema fact is (All-head (IsFactOf (shape_of schema) schema.dims) fact facts valid) in
    let rest = facts-again schema (index + 1) facts is (All-tail (IsFactOf (shape_of schema) schema.dims) fact facts valid) in
    rw (first, rest) refl
