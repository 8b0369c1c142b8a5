-- What fields say of a fact: its id, its nodes, its values.
use Rattle.std.specs.Prelude.{ℕ, Bool, true, false, List, [], ◌∷◌, ◌++◌, length, take, drop, ◌&&◌, ◌||◌, if◌then◌else◌, Option, Some, None, is_none, ok_or, unwrap_or, Result, Ok, Err, ℤ}
use Rattle.std.specs.Option.{option_and_then, option_map}
use Rattle.cube_base.specs.declared.code.Code.{Code}
use Rattle.cube_base.specs.declared.code.Code.TheVariants as code
use Rattle.cube_model.specs.declared.edit.Fact.{Fact}
use Rattle.cube_model.specs.Limits.{MAX_ID, MIN_ID}
use Rattle.cube_model.specs.Tree.{Dimension, node_named}
use Rattle.text_lines.specs.LineText.{field_at}
use Rattle.text_lines.specs.Text.{number_in}
use Rattle.fact_records.specs.declared.shape.Kind.{Kind}
use Rattle.fact_records.specs.declared.shape.Kind.TheVariants.{Number, Parts}
use Rattle.fact_records.specs.declared.shape.Measure.{Measure}
use Rattle.fact_records.specs.Shape.{ShapeValue}
use Rattle.fact_records.specs.Values.{values_for}

-- the id that a field spells
abbrev pub id_in : List ℕ → Option ℕ
id_in field = number_in MIN_ID MAX_ID field

-- the nodes of these names, one of each dimension
abbrev pub nodes_named : List Dimension → List (List ℕ) → Option (List ℕ)
nodes_named [] [] = Some []
nodes_named (dim ∷ dims) (name ∷ names) = option_and_then (λ node. option_map (λ nodes. node ∷ nodes) (nodes_named dims names)) (node_named dim name)
nodes_named dims names = None

-- a measure of numbers, and one of distributions
abbrev pub is_number_measure : Kind → Bool
is_number_measure Number = true
is_number_measure (Parts _ _) = false

abbrev pub is_parts_measure : Kind → Bool
is_parts_measure Number = false
is_parts_measure (Parts _ _) = true

-- a field gives its measure no values, among the measures of a kind
abbrev pub some_wrong : (Kind → Bool) → ShapeValue → List Measure → List (List ℕ) → Bool
some_wrong of_kind shape (measure ∷ measures) (field ∷ fields) = of_kind measure.kind && is_none (values_for shape measure field) || some_wrong of_kind shape measures fields
some_wrong of_kind shape measures fields = false

-- the field of a number measure is wrong, and that of a parts measure
abbrev pub has_wrong_value : ShapeValue → List (List ℕ) → Bool
has_wrong_value shape fields = some_wrong is_number_measure shape shape.measures fields

abbrev pub has_wrong_parts_field : ShapeValue → List (List ℕ) → Bool
has_wrong_parts_field shape fields = some_wrong is_parts_measure shape shape.measures fields

-- the values that the fields give measures, one after the other
abbrev pub values_given : ShapeValue → List Measure → List (List ℕ) → List ℤ
values_given shape (measure ∷ measures) (field ∷ fields) = unwrap_or (values_for shape measure field) [] ++ values_given shape measures fields
values_given shape measures fields = []

-- what is said where the step before was accepted
abbrev pub result_then : {A B : Type 0} → (A → Result B Code) → Result A Code → Result B Code
result_then next (Ok x) = next x
result_then next (Err refusal) = Err refusal

-- the id that the first field gives, or its code
abbrev pub id_given : List (List ℕ) → Result ℕ Code
id_given fields = ok_or (id_in (field_at fields 0)) code.Id

-- the region that the first fields give, one for each dimension, or its code
abbrev pub region_given : List Dimension → List (List ℕ) → Result (List ℕ) Code
region_given dims fields = ok_or (nodes_named dims (take (length dims) fields)) code.Node

-- the values that the fields give, one for each measure, or their code: a wrong number comes before wrong parts, wherever they stand
abbrev pub cols_given : ShapeValue → List (List ℕ) → Result (List ℤ) Code
cols_given shape fields =
    if has_wrong_value shape fields then Err code.Value
    else (if has_wrong_parts_field shape fields then Err code.Parts else Ok (values_given shape shape.measures fields))

abbrev pub fact_with : ℕ → List ℕ → List ℤ → Fact
fact_with id region cols = record { id = id; region = region; cols = cols }

-- the fact that fields give: an id, a node of each dimension, a field of each measure; or the first of their codes in this order
abbrev pub fact_given : List Dimension → ShapeValue → List (List ℕ) → Result Fact Code
fact_given dims shape fields =
    result_then (λ id. result_then (λ region. result_then (λ cols. Ok (fact_with id region cols)) (cols_given shape (drop (length dims) (drop 1 fields)))) (region_given dims (drop 1 fields)))
    (id_given fields)
