-- The fields of the record of a row, and the parts of the text of rows.
use Rattle.std.proofs.Common.{◌≡◌, ℕ, ◌+◌, ◌≤◌, List, [], ◌∷◌, ◌++◌, length, map, take, drop, Some, sym, ap, ◌∙◌, append_assoc}
use Rattle.std.specs.Prelude.{slice_get}
use Rattle.std.specs.Fmt.{decimal}
use Rattle.std.specs.List.{flat_map}
use Rattle.std.specs.Option.{option_map_or}
use Rattle.std.proofs.Math.Seq.{take-add}
use Rattle.std.proofs.lemmas.Grind.{flat_map-append}
use Rattle.std.proofs.lemmas.List.{append-nil, map-append, take_all}
use Rattle.cube_model.specs.Allocation.{ExtendedFact}
use Rattle.cube_model.specs.Cells.{all_cells}
use Rattle.schema_text.specs.Schema.{SchemaValue}
use Rattle.script_text.specs.Reply.{names_of}
use Rattle.fact_fields.specs.FactRow.{value_fields}
use Rattle.csv.specs.Records.{Row, fields_of}
use Rattle.csv.specs.Writing.{default_writer, row_text}
use Rattle.csv_facts.specs.ExtendedRow.{extended_text, part_text, row_record, rows_header, text_before}
use Rattle.csv_facts.specs.RecordList.{IsLonger, IsRecordRow, records_text}
use Rattle.csv_facts.proofs.FieldsLeft.{IsRecordRow-longer}

-- the front, the weight, the denominator and the values are the record of a row
pub row_record-is : (schema : SchemaValue) (fact : ExtendedFact) (cell weight : ℕ) (leaves : List ℕ) (first second third last : Row) → slice_get (all_cells schema.dims) cell ≡ Some leaves
    → IsRecordRow (decimal fact.id ∷ names_of schema.dims leaves) first → IsLonger first (decimal weight ∷ []) second → IsLonger second (decimal fact.allocation.den ∷ []) third
    → IsLonger third (value_fields schema.measures fact.values) last → fields_of last ≡ row_record schema fact (cell, weight)
row_record-is schema fact cell weight leaves first second third last at front weighed over valued =
    let id = decimal fact.id in
    let names = names_of schema.dims leaves in
    let weight_field = decimal weight ∷ [] in
    let den_field = decimal fact.allocation.den ∷ [] in
    let values = value_fields schema.measures fact.values in
    let two = IsRecordRow-longer first second (id ∷ names) weight_field front weighed in
    let three = IsRecordRow-longer second third ((id ∷ names) ++ weight_field) den_field two over in
    (IsRecordRow-longer third last (((id ∷ names) ++ weight_field) ++ den_field) values three valued).fields_are
    ∙ append_assoc ((id ∷ names) ++ weight_field) den_field values
    ∙ append_assoc (id ∷ names) weight_field (den_field ++ values)
    ∙ ap (λ found. id ∷ option_map_or (names_of schema.dims) found [] ++ (weight_field ++ (den_field ++ values))) (sym at)

-- the texts of records one behind the other
records_text-append : (before after : List (List (List ℕ))) → records_text (before ++ after) ≡ records_text before ++ records_text after
records_text-append before after = flat_map-append (row_text default_writer) before after

-- a part behind those rows that stand before it
part-next : (schema : SchemaValue) (fact : ExtendedFact) (from most : ℕ) → part_text schema fact 0 from ++ part_text schema fact from most ≡ part_text schema fact 0 (from + most)
part-next schema fact from most =
    let rows = fact.allocation.rows in
    sym (ap (λ rs. records_text (map (row_record schema fact) rs)) (take-add from most rows)
    ∙ ap records_text (map-append (row_record schema fact) (take from rows) (take most (drop from rows)))
    ∙ records_text-append (map (row_record schema fact) (take from rows)) (map (row_record schema fact) (take most (drop from rows))))

pub part-behind : (schema : SchemaValue) (facts : List ExtendedFact) (fact : ExtendedFact) (from most : ℕ)
    → text_before schema facts fact from ++ part_text schema fact from most ≡ text_before schema facts fact (from + most)
part-behind schema facts fact from most =
    append_assoc (extended_text schema facts) (part_text schema fact 0 from) (part_text schema fact from most) ∙ ap (λ t. extended_text schema facts ++ t) (part-next schema fact from most)

-- the records of a fact's rows
row_records : SchemaValue → ExtendedFact → List (List (List ℕ))
row_records schema fact = map (row_record schema fact) fact.allocation.rows

-- all rows of a fact
pub rows-through : (schema : SchemaValue) (facts : List ExtendedFact) (fact : ExtendedFact) (count : ℕ) → length fact.allocation.rows ≤ count
    → text_before schema facts fact count ≡ extended_text schema (facts ++ fact ∷ [])
unfolding extended_text row_records
rows-through schema facts fact count all =
    let before = flat_map (row_records schema) facts in
    let rows = row_records schema fact in
    ap (λ rs. extended_text schema facts ++ records_text (map (row_record schema fact) rs)) (take_all count fact.allocation.rows all)
    ∙ sym (records_text-append (rows_header schema ∷ before) rows)
    ∙ ap (λ rs. records_text (rows_header schema ∷ (before ++ rs))) (sym (append-nil rows))
    ∙ ap (λ rs. records_text (rows_header schema ∷ rs)) (sym (flat_map-append (row_records schema) facts (fact ∷ [])))
