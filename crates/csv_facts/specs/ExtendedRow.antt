-- How the rows of facts are written: the fields of a row's record, the text of all rows, and parts of it.
use Rattle.std.specs.Prelude.{ℕ, List, [], ◌∷◌, ◌++◌, codes, drop, map, slice_get, take}
use Rattle.std.specs.Fmt.{decimal}
use Rattle.std.specs.List.{flat_map}
use Rattle.std.specs.Option.{option_map_or}
use Rattle.cube_model.specs.declared.edit.Fact.{Fact}
use Rattle.cube_model.specs.Allocation.{Allocation, ExtendedFact}
use Rattle.cube_model.specs.Cells.{all_cells}
use Rattle.schema_text.specs.Schema.{SchemaValue}
use Rattle.script_text.specs.Reply.{names_of}
use Rattle.fact_fields.specs.FactRow.{value_fields}
use Rattle.csv_facts.specs.RecordList.{records_text}

-- the names of the columns: the id's, those of the dimensions, the weight's, that of the sum of all weights, those of the measures
abbrev pub rows_header : SchemaValue → List (List ℕ)
rows_header schema = codes "id" ∷ schema.names ++ codes "weight" ∷ codes "of" ∷ map (λ m. m.name) schema.measures

-- a fact with the rows over which it is spread
abbrev pub with_rows : Fact → Allocation → ExtendedFact
with_rows fact allocation = record { id = fact.id; values = fact.cols; allocation = allocation }

-- The record of a row of a fact: the fact's id, the names of the leaves of the row's cell, the row's weight, the sum of the
-- weights of all rows, the fact's values.
abbrev pub row_record : SchemaValue → ExtendedFact → ℕ × ℕ → List (List ℕ)
row_record schema fact row =
    decimal fact.id ∷ option_map_or (names_of schema.dims) (slice_get (all_cells schema.dims) row.0) [] ++ decimal row.1 ∷ decimal fact.allocation.den
    ∷ value_fields schema.measures fact.values

-- the text of all rows: the header, then the records of each fact's rows
unfoldable pub extended_text : SchemaValue → List ExtendedFact → List ℕ
extended_text schema facts = records_text (rows_header schema ∷ flat_map (λ fact. map (row_record schema fact) fact.allocation.rows) facts)

-- the text of some rows of a fact: from a place on, at most so many
abbrev pub part_text : SchemaValue → ExtendedFact → ℕ → ℕ → List ℕ
part_text schema fact from most = records_text (map (row_record schema fact) (take most (drop from fact.allocation.rows)))

-- the text up to a row: that of the facts before, then that of so many rows of the fact
abbrev pub text_before : SchemaValue → List ExtendedFact → ExtendedFact → ℕ → List ℕ
text_before schema facts fact count = extended_text schema facts ++ part_text schema fact 0 count
