-- How a fact is spelled in fields.
use Rattle.std.specs.Prelude.{ℕ, List, [], ◌∷◌, ◌++◌, map, ℤ}
use Rattle.std.specs.Fmt.{decimal, signed_decimal}
use Rattle.std.specs.List.{flat_map}
use Rattle.cube_model.specs.declared.edit.Fact.{Fact}
use Rattle.fact_records.specs.declared.shape.Measure.{Measure}
use Rattle.fact_records.specs.Shape.{values_of}
use Rattle.schema_text.specs.Schema.{SchemaValue}
use Rattle.script_text.specs.Reply.{names_of}

-- the values of a measure with `:` between them
abbrev pub value_text : List ℤ → List ℕ
value_text [] = []
value_text (value ∷ values) = signed_decimal value ++ flat_map (λ v. 58 ∷ signed_decimal v) values

-- a field for each measure
abbrev pub value_fields : List Measure → List ℤ → List (List ℕ)
value_fields measures cols = map (λ m. value_text (values_of m cols)) measures

-- the record of a fact: its id, the names of its nodes, its values
abbrev pub record_of : SchemaValue → Fact → List (List ℕ)
record_of schema fact = decimal fact.id ∷ names_of schema.dims fact.region ++ value_fields schema.measures fact.cols
