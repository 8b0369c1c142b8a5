-- What a line of a script says over a schema, and why it may be refused.
use Rattle.std.specs.Prelude.{ℕ, ◌+◌, List, length, drop, take, ok_or, ◌==◌, ◌&&◌, if◌then◌else◌, Option, Some, None, is_none, position, slice_get, Result, Ok, Err}
use Rattle.std.specs.Option.{option_and_then, option_map_or}
use Rattle.std.specs.Str.{bytes_eq}
use Rattle.cube_base.specs.declared.code.Code.{Code}
use Rattle.cube_base.specs.declared.code.Code.TheVariants as code
use Rattle.cube_base.specs.Name.{is_name}
use Rattle.cube_model.specs.declared.edit.Edit.TheVariants as edit
use Rattle.cube_model.specs.Tree.{Dimension, node_named}
use Rattle.text_lines.specs.Text.{fields_of, number_in}
use Rattle.text_lines.specs.LineText.{without_cr, is_skipped, is_long, is_clean, field_at}
use Rattle.fact_records.specs.Fields.{fact_given, id_given, region_given, result_then}
use Rattle.fact_records.specs.MeasureFields.{measure_given}
use Rattle.schema_text.specs.Schema.{SchemaValue, shape_of, view_named}
use Rattle.schema_text.specs.SchemaText.{depths_in, has_wrong_depths}
use Rattle.script_text.specs.declared.word.AskWord.{AskWord}
use Rattle.script_text.specs.declared.word.AskWord.TheVariants.{OfId, OfRegion, OfMeasure, OfView, OfRounds, OfTable, OfMeasureTable}
use Rattle.script_text.specs.declared.word.MeasureWord.{MeasureWord}
use Rattle.script_text.specs.declared.word.MeasureTableWord.{MeasureTableWord}
use Rattle.script_text.specs.declared.word.RoundsWord.{RoundsWord}
use Rattle.script_text.specs.declared.word.ScriptWord.{ScriptWord}
use Rattle.script_text.specs.declared.word.ScriptWord.TheVariants.{OfFact, Withdraw, Grow, Asks}
use Rattle.script_text.specs.declared.word.TableWord.{TableWord}
use Rattle.script_text.specs.declared.line.Line.{Line}
use Rattle.script_text.specs.declared.line.Line.TheVariants as line
use Rattle.script_text.specs.declared.line.Question.{Question}
use Rattle.script_text.specs.declared.line.Question.TheVariants as question
use Rattle.script_text.specs.ScriptWord.{each_of, kind_of, line_of_fact, word_spelled}

-- the number of fields of a line: the word, an id, a measure, a view or a number of rounds where the line has one, a depth and a node of
-- each dimension and a field of each measure where it has these
abbrev pub field_count_of : SchemaValue → ScriptWord → ℕ
field_count_of schema (OfFact _) = 2 + length schema.dims + length schema.measures
field_count_of schema Withdraw = 2
field_count_of schema Grow = 4
field_count_of schema (Asks (OfRegion _)) = 1 + length schema.dims
field_count_of schema (Asks (OfMeasure _)) = 2 + length schema.dims
field_count_of schema (Asks (OfId _)) = 2
field_count_of schema (Asks (OfView _)) = 2
field_count_of schema (Asks (OfRounds _)) = 2 + length schema.dims
field_count_of schema (Asks (OfTable _)) = 1 + length schema.dims + length schema.dims
field_count_of schema (Asks (OfMeasureTable _)) = 2 + length schema.dims + length schema.dims

-- the nodes are judged before the measure, whose name stands before theirs
abbrev pub measure_question_given : SchemaValue → MeasureWord → List (List ℕ) → Result Question Code
measure_question_given schema word fields =
    result_then (λ region. result_then (λ measure. Ok (question.OfMeasure word measure region)) (measure_given (shape_of schema) (kind_of word) (field_at fields 0)))
    (region_given schema.dims (drop 1 fields))

-- the view that a name says
abbrev pub view_given : SchemaValue → List ℕ → Result ℕ Code
view_given schema name = option_map_or (λ view. Ok view) (view_named schema.views name) (Err code.Name)

-- the fewest and the most rounds
abbrev pub MIN_ROUNDS : ℕ
MIN_ROUNDS = 1

abbrev pub MAX_ROUNDS : ℕ
MAX_ROUNDS = 32

-- the number of rounds that a field says
abbrev pub rounds_given : List ℕ → Result ℕ Code
rounds_given field = ok_or (number_in MIN_ROUNDS MAX_ROUNDS field) code.Number

-- it is judged before the nodes
abbrev pub rounds_question_given : SchemaValue → RoundsWord → List (List ℕ) → Result Question Code
rounds_question_given schema word fields =
    result_then (λ rounds. result_then (λ region. Ok (question.OfRounds word rounds region)) (region_given schema.dims (drop 1 fields))) (rounds_given (field_at fields 0))

-- the depths that fields say, one for each dimension
abbrev pub depths_given : List Dimension → List (List ℕ) → Result (List ℕ) Code
depths_given dims fields = if has_wrong_depths (take (length dims) fields) then Err code.Number else Ok (depths_in (take (length dims) fields))

-- what every table is asked of: the depths, and the region after them
abbrev pub table_given : List Dimension → List (List ℕ) → Result (List ℕ × List ℕ) Code
table_given dims fields = result_then (λ depths. result_then (λ region. Ok (depths, region)) (region_given dims (drop (length dims) fields))) (depths_given dims fields)

abbrev pub table_question_given : SchemaValue → TableWord → List (List ℕ) → Result Question Code
table_question_given schema word fields = result_then (λ table. Ok (question.OfTable word table.0 table.1)) (table_given schema.dims fields)

-- these are judged before the measure, whose name stands before them
abbrev pub measure_table_given : SchemaValue → MeasureTableWord → List (List ℕ) → Result Question Code
measure_table_given schema word fields =
    result_then (λ table. result_then (λ measure. Ok (question.OfMeasureTable word measure table.0 table.1)) (measure_given (shape_of schema) (kind_of (each_of word)) (field_at fields 0)))
    (table_given schema.dims (drop 1 fields))

-- the dimension that a name says, by its place, and the node of one
abbrev pub dim_given : SchemaValue → List ℕ → Result ℕ Code
dim_given schema name = option_map_or (λ dim. Ok dim) (position (λ other. bytes_eq other name) schema.names) (Err code.Node)

abbrev pub parent_given : List Dimension → ℕ → List ℕ → Result ℕ Code
parent_given dims dim name = option_map_or (λ node. Ok node) (option_and_then (λ tree. node_named tree name) (slice_get dims dim)) (Err code.Node)

-- the name of a new node of a dimension: it is a name, and no node's
abbrev pub new_name_given : List Dimension → ℕ → List ℕ → Result (List ℕ) Code
new_name_given dims dim name = if is_name name && is_none (option_and_then (λ tree. node_named tree name) (slice_get dims dim)) then Ok name else Err code.Name

-- the leaf that a dimension, a node of it and a name say, which are judged in this order
abbrev pub growth_given : SchemaValue → List (List ℕ) → Result Line Code
growth_given schema fields =
    result_then (λ dim. result_then (λ parent. result_then (λ name. Ok (line.Grow (record { dim = dim; parent = parent; name = name })))
    (new_name_given schema.dims dim (field_at fields 2))) (parent_given schema.dims dim (field_at fields 1))) (dim_given schema (field_at fields 0))

-- what the fields after the word of a question ask
abbrev pub question_given : SchemaValue → AskWord → List (List ℕ) → Result Question Code
question_given schema (OfRegion word) fields = result_then (λ region. Ok (question.OfRegion word region)) (region_given schema.dims fields)
question_given schema (OfMeasure word) fields = measure_question_given schema word fields
question_given schema (OfId word) fields = result_then (λ id. Ok (question.OfId word id)) (id_given fields)
question_given schema (OfView word) fields = result_then (λ view. Ok (question.OfView word view)) (view_given schema (field_at fields 0))
question_given schema (OfRounds word) fields = rounds_question_given schema word fields
question_given schema (OfTable word) fields = table_question_given schema word fields
question_given schema (OfMeasureTable word) fields = measure_table_given schema word fields

-- what the fields after a word say
abbrev pub line_given : SchemaValue → ScriptWord → List (List ℕ) → Result Line Code
line_given schema (OfFact word) fields = result_then (λ fact. Ok (line_of_fact word fact)) (fact_given schema.dims (shape_of schema) fields)
line_given schema Withdraw fields = result_then (λ id. Ok (line.Edit (edit.Withdraw id))) (id_given fields)
line_given schema Grow fields = growth_given schema fields
line_given schema (Asks word) fields = result_then (λ asked. Ok (line.Ask asked)) (question_given schema word fields)

-- and what all fields of a line of a word say: first their number is judged
abbrev pub command_line : SchemaValue → List (List ℕ) → Option ScriptWord → Result Line Code
command_line schema fields None = Err code.Command
command_line schema fields (Some word) = if length fields == field_count_of schema word then line_given schema word (drop 1 fields) else Err code.Fields

-- what a line says, or the first of the codes that holds
unfoldable pub line_of : SchemaValue → List ℕ → Result Line Code
line_of schema bytes =
    let fields = fields_of (without_cr bytes) in
    if is_skipped bytes then Ok line.Nothing
    else (if is_long bytes then Err code.Long
    else (if is_clean (without_cr bytes) then command_line schema fields (word_spelled (field_at fields 0)) else Err code.Text))
