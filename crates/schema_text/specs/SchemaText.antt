-- The text of a schema: which line of it is the first at fault, and what an accepted text says.
use Rattle.std.specs.Prelude.{ℕ, ◌+◌, ◌-◌, Bool, true, false, List, [], ◌∷◌, ◌++◌, length, map, drop, not, nat_le, nat_lt, ◌==◌, ◌&&◌, ◌||◌, if◌then◌else◌, Option, Some, None, is_none, unwrap_or, position, slice_get, codes, Result, Ok, Err}
use Rattle.std.specs.Option.{option_and_then, option_map, option_map_or}
use Rattle.std.specs.List.{flat_map, list_all, list_any}
use Rattle.std.specs.Str.{bytes_eq}
use Rattle.std.specs.Fmt.{decimal}
use Rattle.cube_base.specs.Name.{is_name}
use Rattle.cube_base.specs.declared.code.Code.{Code}
use Rattle.cube_base.specs.declared.code.Code.TheVariants as code
use Rattle.cube_model.specs.Accepted.{first_that_holds}
use Rattle.cube_model.specs.Limits.{MAX_COLS, MAX_DEPTH, MAX_DIMS, MAX_NODES, MAX_SCALE, MIN_SCALE, SPACE_LIMIT}
use Rattle.cube_model.specs.Tree.{Dimension, Entry, is_numbered, numbers}
use Rattle.text_lines.specs.LineText.{without_cr, is_skipped, is_long, is_clean, field_at}
use Rattle.text_lines.specs.Text.{after_lines, fields_of, line_text, lines_of, number_in}
use Rattle.fact_records.specs.declared.shape.Kind.{Kind}
use Rattle.fact_records.specs.declared.shape.Kind.TheVariants as kind
use Rattle.fact_records.specs.declared.shape.Measure.{Measure}
use Rattle.fact_records.specs.Fields.{is_number_measure}
use Rattle.fact_records.specs.Shape.{width_of_all}
use Rattle.region_algebra.specs.declared.view_def.ViewDef.{ViewDef}
use Rattle.region_algebra.specs.Space.{cell_total, region_total}
use Rattle.schema_text.specs.declared.word.SchemaWord.{SchemaWord}
use Rattle.schema_text.specs.declared.word.SchemaWord.TheVariants.{Cube, Policy, Number, Parts, Dimension as DimensionWord, Node, View, End}
use Rattle.schema_text.specs.declared.policy.NamedPolicy.{NamedPolicy}
use Rattle.schema_text.specs.declared.policy.NamedPolicy.TheVariants.{Uniform, Count, Weight}
use Rattle.schema_text.specs.declared.word.PolicyWord.{PolicyWord}
use Rattle.schema_text.specs.declared.word.PolicyWord.TheVariants as policy_word
use Rattle.schema_text.specs.declared.word.Version.{Version}
use Rattle.schema_text.specs.declared.word.Version.TheVariants.{One, Two}
use Rattle.schema_text.specs.Schema.{MAX_VIEWS, SchemaValue}

-- the greatest number of a node
abbrev pub MAX_NODE_NUMBER : ℕ
MAX_NODE_NUMBER = 65535

-- the word of a schema that bytes spell
abbrev pub word_named : List ℕ → Option SchemaWord
word_named bytes =
    if bytes_eq bytes (codes "cube") then Some Cube
    else (if bytes_eq bytes (codes "policy") then Some Policy
    else (if bytes_eq bytes (codes "number") then Some Number
    else (if bytes_eq bytes (codes "parts") then Some Parts
    else (if bytes_eq bytes (codes "dimension") then Some DimensionWord
    else (if bytes_eq bytes (codes "node") then Some Node
    else (if bytes_eq bytes (codes "view") then Some View
    else (if bytes_eq bytes (codes "end") then Some End else None)))))))

-- the version that bytes name
abbrev pub version_named : List ℕ → Option Version
version_named bytes = if bytes_eq bytes (codes "1") then Some One else (if bytes_eq bytes (codes "2") then Some Two else None)

-- a policy that names its measure
abbrev pub is_weight_word : List ℕ → Bool
is_weight_word bytes = bytes_eq bytes (codes "weight")

-- the policy that a word and the name after it give
abbrev pub policy_named : List ℕ → List ℕ → Option NamedPolicy
policy_named word name =
    if bytes_eq word (codes "uniform") then Some Uniform
    else (if bytes_eq word (codes "count") then Some Count
    else (if is_weight_word word then Some (Weight name) else None))

-- the place of the number measure of a name
abbrev pub number_measure_named : List Measure → List ℕ → Option ℕ
number_measure_named measures name = position (λ m. is_number_measure m.kind && bytes_eq m.name name) measures

-- the policy over these measures, with the place of its measure; None where no number measure has the name
abbrev pub policy_among : List Measure → NamedPolicy → Option PolicyWord
policy_among measures Uniform = Some policy_word.Uniform
policy_among measures Count = Some policy_word.Count
policy_among measures (Weight name) = option_map (λ i. policy_word.Weight i) (number_measure_named measures name)

-- which words may follow a word; before the first line there is none
abbrev pub may_follow : Option SchemaWord → SchemaWord → Bool
may_follow None Cube = true
may_follow (Some Cube) Policy = true
may_follow (Some Policy) Number = true
may_follow (Some Policy) Parts = true
may_follow (Some Policy) DimensionWord = true
may_follow (Some Number) Number = true
may_follow (Some Number) Parts = true
may_follow (Some Number) DimensionWord = true
may_follow (Some Parts) Number = true
may_follow (Some Parts) Parts = true
may_follow (Some Parts) DimensionWord = true
may_follow (Some DimensionWord) Node = true
may_follow (Some Node) Node = true
may_follow (Some Node) DimensionWord = true
may_follow (Some Node) View = true
may_follow (Some Node) End = true
may_follow (Some View) View = true
may_follow (Some View) End = true
may_follow before word = false

-- a word is that of a node's line
abbrev pub is_node_word : Option SchemaWord → Bool
is_node_word (Some Node) = true
is_node_word word = false

-- A schema while its lines are read: the word of the last line, what the lines said, the dimensions that are ended, the
-- nodes so far of the dimension that was named last, and the views.
pub record Draft : Type 0 where
  pub last : Option SchemaWord
  pub version : Version
  pub policy : NamedPolicy
  pub measures : List Measure
  pub names : List (List ℕ)
  pub dims : List Dimension
  pub nodes : Dimension
  pub views : List ViewDef

-- before the first line
abbrev pub blank_draft : Draft
blank_draft = record { last = None; version = One; policy = Uniform; measures = []; names = []; dims = []; nodes = []; views = [] }

-- the dimension of these nodes, where there are any
abbrev pub ended : Dimension → List Dimension
ended [] = []
ended (node ∷ nodes) = (node ∷ nodes) ∷ []

-- the dimensions once the last is ended
abbrev pub dims_of : Draft → List Dimension
dims_of draft = draft.dims ++ ended draft.nodes

-- names, one of which is this
abbrev pub is_among_names : List ℕ → List (List ℕ) → Bool
is_among_names name names = list_any (λ n. bytes_eq n name) names

-- the name is none, or is taken
abbrev pub is_wrong_name : List ℕ → List (List ℕ) → Bool
is_wrong_name name names = not (is_name name) || is_among_names name names

-- one of these names is none, or is taken, by an earlier one of them too
abbrev pub has_wrong_names : List (List ℕ) → List (List ℕ) → Bool
has_wrong_names taken [] = false
has_wrong_names taken (name ∷ names) = is_wrong_name name taken || has_wrong_names (taken ++ name ∷ []) names

-- a depth may not follow the nodes: the first has depth 0, a later one a depth from 1 to one more than the node before
abbrev pub is_wrong_depth : Dimension → ℕ → Bool
is_wrong_depth [] depth = not (depth == 0)
is_wrong_depth (node ∷ []) depth = depth == 0 || nat_lt (node.depth + 1) depth
is_wrong_depth (node ∷ next ∷ nodes) depth = is_wrong_depth (next ∷ nodes) depth

-- the number, where it is that of none of the nodes
abbrev pub free_number : Dimension → ℕ → Option ℕ
free_number nodes number = if list_any (λ n. n == number) (numbers nodes) then None else Some number

-- What the fields of a line say, the word being the first.

-- the outcomes of a distribution
abbrev pub outcomes_of : List (List ℕ) → List (List ℕ)
outcomes_of fields = drop 3 fields

-- the scale of a distribution
abbrev pub read_scale : List (List ℕ) → Option ℕ
read_scale fields = number_in MIN_SCALE MAX_SCALE (field_at fields 2)

-- the depth of a node
abbrev pub read_depth : List (List ℕ) → Option ℕ
read_depth fields = number_in 0 MAX_DEPTH (field_at fields 1)

-- the number of a node after these: its place in version 1, in version 2 that of the last field, which is none of
-- theirs
abbrev pub read_number : Version → Dimension → List (List ℕ) → Option ℕ
read_number One nodes fields = Some (length nodes)
read_number Two nodes fields = option_and_then (free_number nodes) (number_in 0 MAX_NODE_NUMBER (field_at fields 3))

-- a depth that a field spells, and the fields of a view's depths
abbrev pub depth_in : List ℕ → Option ℕ
depth_in field = number_in 0 MAX_DEPTH field

abbrev pub depth_fields : List (List ℕ) → List (List ℕ)
depth_fields fields = drop 2 fields

-- one of these fields spells no depth
abbrev pub has_wrong_depths : List (List ℕ) → Bool
has_wrong_depths fields = list_any (λ field. is_none (depth_in field)) fields

-- the depths that they spell
abbrev pub depths_in : List (List ℕ) → List ℕ
depths_in fields = map (λ field. unwrap_or (depth_in field) 0) fields

-- how many fields the line of a policy of this word has, and that of a node
abbrev pub policy_field_count : List ℕ → ℕ
policy_field_count word = if is_weight_word word then 3 else 2

abbrev pub node_field_count : Version → ℕ
node_field_count One = 3
node_field_count Two = 4

-- Conditions on a line of a word.

-- the number of fields may not be this one, where so many dimensions are named
abbrev pub has_wrong_count : Version → ℕ → List (List ℕ) → SchemaWord → Bool
has_wrong_count version dims fields Cube = not (length fields == 2)
has_wrong_count version dims fields Policy = not (length fields == policy_field_count (field_at fields 1))
has_wrong_count version dims fields Number = not (length fields == 2)
has_wrong_count version dims fields Parts = nat_lt (length fields) 5 || nat_lt 10 (length fields)
has_wrong_count version dims fields DimensionWord = not (length fields == 2)
has_wrong_count version dims fields Node = not (length fields == node_field_count version)
has_wrong_count version dims fields View = not (length fields == dims + 2)
has_wrong_count version dims fields End = not (length fields == 1)

abbrev pub has_wrong_name : Draft → List (List ℕ) → SchemaWord → Bool
has_wrong_name draft fields Policy = is_weight_word (field_at fields 1) && not (is_name (field_at fields 2))
has_wrong_name draft fields Number = is_wrong_name (field_at fields 1) (map (λ m. m.name) draft.measures)
has_wrong_name draft fields Parts = is_wrong_name (field_at fields 1) (map (λ m. m.name) draft.measures) || has_wrong_names [] (outcomes_of fields)
has_wrong_name draft fields DimensionWord = is_wrong_name (field_at fields 1) draft.names
has_wrong_name draft fields Node = is_wrong_name (field_at fields 2) (map (λ n. n.name) draft.nodes)
has_wrong_name draft fields View = is_wrong_name (field_at fields 1) (map (λ v. v.name) draft.views)
has_wrong_name draft fields word = false

abbrev pub has_wrong_policy : Draft → List (List ℕ) → SchemaWord → Bool
has_wrong_policy draft fields Policy = is_none (policy_named (field_at fields 1) (field_at fields 2))
has_wrong_policy draft fields word = false

-- a number of the line is wrong, or those of the dimension that ends at it are
abbrev pub line_has_wrong_number : Draft → List (List ℕ) → SchemaWord → Bool
line_has_wrong_number draft fields Cube = is_none (version_named (field_at fields 1))
line_has_wrong_number draft fields Parts = is_none (read_scale fields)
line_has_wrong_number draft fields Node = is_none (read_depth fields) || is_none (read_number draft.version draft.nodes fields)
line_has_wrong_number draft fields DimensionWord = not (list_all is_numbered (ended draft.nodes))
line_has_wrong_number draft fields View = has_wrong_depths (depth_fields fields) || not (list_all is_numbered (ended draft.nodes))
line_has_wrong_number draft fields End = not (list_all is_numbered (ended draft.nodes))
line_has_wrong_number draft fields word = false

abbrev pub has_wrong_depth : Draft → List (List ℕ) → SchemaWord → Bool
has_wrong_depth draft fields Node = option_map_or (is_wrong_depth draft.nodes) (read_depth fields) false
has_wrong_depth draft fields word = false

-- the line would pass a limit: a column beyond seven beside the count, a seventh dimension, a node too many, or a fifth view
abbrev pub has_no_room : Draft → List (List ℕ) → SchemaWord → Bool
has_no_room draft fields Number = nat_lt MAX_COLS (width_of_all draft.measures + 1)
has_no_room draft fields Parts = nat_lt MAX_COLS (width_of_all draft.measures + length (outcomes_of fields))
has_no_room draft fields DimensionWord = nat_le MAX_DIMS (length draft.names)
has_no_room draft fields Node = nat_le MAX_NODES (length draft.nodes)
has_no_room draft fields View = nat_le MAX_VIEWS (length draft.views)
has_no_room draft fields word = false

-- at the end no number measure has the name that the policy gives
abbrev pub lacks_measure : Draft → List (List ℕ) → SchemaWord → Bool
lacks_measure draft fields End = is_none (policy_among draft.measures draft.policy)
lacks_measure draft fields word = false

abbrev pub has_many_cells : Draft → List (List ℕ) → SchemaWord → Bool
has_many_cells draft fields End = nat_le SPACE_LIMIT (cell_total (dims_of draft))
has_many_cells draft fields word = false

abbrev pub has_many_regions : Draft → List (List ℕ) → SchemaWord → Bool
has_many_regions draft fields End = nat_le SPACE_LIMIT (region_total (dims_of draft))
has_many_regions draft fields word = false

-- the conditions that refuse a line of a word that may stand here, in their order
abbrev pub word_conditions : Draft → List (List ℕ) → SchemaWord → List (Bool × Code)
word_conditions draft fields word =
    (has_wrong_count draft.version (length draft.names) fields word, code.Fields)
    ∷ (has_wrong_name draft fields word, code.Name)
    ∷ (has_wrong_policy draft fields word, code.Policy)
    ∷ (line_has_wrong_number draft fields word, code.Number)
    ∷ (has_wrong_depth draft fields word, code.Depth)
    ∷ (has_no_room draft fields word, code.Limit)
    ∷ (lacks_measure draft fields word, code.Policy)
    ∷ (has_many_cells draft fields word, code.Cells)
    ∷ (has_many_regions draft fields word, code.Nodes) ∷ []

-- why the line of a word that may stand here is refused: the first of them that holds
abbrev pub word_fault : Draft → List (List ℕ) → SchemaWord → Option Code
word_fault draft fields word = first_that_holds (word_conditions draft fields word)

-- why the fields of a line are refused, by its word
abbrev pub fields_fault : Draft → List (List ℕ) → Option SchemaWord → Option Code
fields_fault draft fields None = Some code.Order
fields_fault draft fields (Some word) = if may_follow draft.last word then word_fault draft fields word else Some code.Order

-- why a line is refused that follows those of the draft
abbrev pub draft_line_fault : Draft → List ℕ → Option Code
draft_line_fault draft line =
    let fields = fields_of (without_cr line) in
    if is_long line then Some code.Long
    else (if is_clean (without_cr line) then fields_fault draft fields (word_named (field_at fields 0)) else Some code.Text)

-- a measure of a name and a kind, whose columns follow those of the measures before it
abbrev pub measure_behind : List Measure → List ℕ → Kind → Measure
measure_behind before name of_kind = record { name = name; kind = of_kind; first_col = 1 + width_of_all before }

-- the kind of a distribution
abbrev pub parts_kind : List (List ℕ) → Kind
parts_kind fields = kind.Parts (unwrap_or (read_scale fields) 0) (outcomes_of fields)

-- the node of a line
abbrev pub node_of_fields : Version → Dimension → List (List ℕ) → Entry
node_of_fields version nodes fields = record { depth = unwrap_or (read_depth fields) 0; name = field_at fields 2; number = unwrap_or (read_number version nodes fields) 0 }

-- the view of a line
abbrev pub view_of_fields : List (List ℕ) → ViewDef
view_of_fields fields = record { name = field_at fields 1; depths = depths_in (depth_fields fields) }

-- what an accepted line of a word adds
abbrev pub with_word : Draft → List (List ℕ) → SchemaWord → Draft
with_word draft fields Cube = record draft { last = Some Cube; version = unwrap_or (version_named (field_at fields 1)) One }
with_word draft fields Policy = record draft { last = Some Policy; policy = unwrap_or (policy_named (field_at fields 1) (field_at fields 2)) Uniform }
with_word draft fields Number = record draft { last = Some Number; measures = draft.measures ++ measure_behind draft.measures (field_at fields 1) kind.Number ∷ [] }
with_word draft fields Parts = record draft { last = Some Parts; measures = draft.measures ++ measure_behind draft.measures (field_at fields 1) (parts_kind fields) ∷ [] }
with_word draft fields DimensionWord = record draft { last = Some DimensionWord; names = draft.names ++ field_at fields 1 ∷ []; dims = dims_of draft; nodes = [] }
with_word draft fields Node = record draft { last = Some Node; nodes = draft.nodes ++ node_of_fields draft.version draft.nodes fields ∷ [] }
with_word draft fields View = record draft { last = Some View; dims = dims_of draft; nodes = []; views = draft.views ++ view_of_fields fields ∷ [] }
with_word draft fields End = record draft { last = Some End }

-- what an accepted line adds
abbrev pub with_line : Draft → List ℕ → Draft
with_line draft line = let fields = fields_of (without_cr line) in option_map_or (with_word draft fields) (word_named (field_at fields 0)) draft

-- the schema of a draft whose last line was accepted
abbrev pub schema_of_draft : Draft → SchemaValue
schema_of_draft draft = record { policy = unwrap_or (policy_among draft.measures draft.policy) policy_word.Uniform; measures = draft.measures; names = draft.names; dims = dims_of draft; views = draft.views }

-- the line that ends a schema
abbrev pub is_end : List ℕ → Bool
is_end line = bytes_eq (without_cr line) (codes "end")

-- a line that is refused, counted from 1, and why
pub record BadLine : Type 0 where
  pub line : ℕ
  pub reason : Code

-- a schema, and how many lines it takes
pub record ReadLines : Type 0 where
  pub schema : SchemaValue
  pub lines : ℕ

-- What lines say from the draft on, where k lines stand before them: each that is not skipped is judged after those before
-- it; the first refused one ends the reading, and so does `end`. Where the lines end before, that is the fault `cut`.
abbrev pub read_from : Draft → ℕ → List (List ℕ) → Result ReadLines BadLine
read_from draft k [] = Err (record { line = k + 1; reason = code.Cut })
read_from draft k (line ∷ lines) =
    if is_skipped line then read_from draft (k + 1) lines
    else option_map_or (λ fault. Err (record { line = k + 1; reason = fault }))
    (draft_line_fault draft line)
    (if is_end line then Ok (record { schema = schema_of_draft draft; lines = k + 1 }) else read_from (with_line draft line) (k + 1) lines)

-- a schema, and how many bytes its text takes
pub record ReadSchema : Type 0 where
  pub schema : SchemaValue
  pub size : ℕ

abbrev pub sized : List ℕ → Result ReadLines BadLine → Result ReadSchema BadLine
sized bytes (Ok read) = Ok (record { schema = read.schema; size = length bytes - length (after_lines read.lines bytes) })
sized bytes (Err bad) = Err bad

-- the schema with which a text begins, or the first line at fault
unfoldable pub schema_of : List ℕ → Result ReadSchema BadLine
schema_of bytes = sized bytes (read_from blank_draft 0 (lines_of bytes))

-- the version of the text that is written: 1 where each node's number is its place
abbrev pub are_places_from : ℕ → Dimension → Bool
are_places_from k [] = true
are_places_from k (node ∷ nodes) = node.number == k && are_places_from (k + 1) nodes

abbrev pub version_of : List Dimension → Version
version_of dims = if list_all (are_places_from 0) dims then One else Two

abbrev pub version_text : Version → List ℕ
version_text One = codes "1"
version_text Two = codes "2"

-- the name of the measure at a place
abbrev pub measure_name : List Measure → ℕ → List ℕ
measure_name measures i = option_map_or (λ m. m.name) (slice_get measures i) []

-- what stands after the word in the line of a policy
abbrev pub policy_fields : List Measure → PolicyWord → List (List ℕ)
policy_fields measures policy_word.Uniform = codes "uniform" ∷ []
policy_fields measures policy_word.Count = codes "count" ∷ []
policy_fields measures (policy_word.Weight i) = codes "weight" ∷ measure_name measures i ∷ []

-- the line of a measure of a name and a kind
abbrev pub kind_line : List ℕ → Kind → List ℕ
kind_line name kind.Number = line_text (codes "number") (name ∷ [])
kind_line name (kind.Parts scale outcomes) = line_text (codes "parts") (name ∷ decimal scale ∷ outcomes)

-- where the number of a node stands
abbrev pub number_fields : Version → ℕ → List (List ℕ)
number_fields One number = []
number_fields Two number = decimal number ∷ []

-- the lines of a policy, of a measure, of a node, of dimensions with their nodes, and of a view
abbrev pub policy_line : List Measure → PolicyWord → List ℕ
policy_line measures policy = line_text (codes "policy") (policy_fields measures policy)

abbrev pub measure_line : Measure → List ℕ
measure_line measure = kind_line measure.name measure.kind

abbrev pub node_line : Version → Entry → List ℕ
node_line version node = line_text (codes "node") (decimal node.depth ∷ node.name ∷ number_fields version node.number)

abbrev pub dims_text : Version → List (List ℕ) → List Dimension → List ℕ
dims_text version (name ∷ names) (dim ∷ dims) = line_text (codes "dimension") (name ∷ []) ++ flat_map (node_line version) dim ++ dims_text version names dims
dims_text version names dims = []

abbrev pub view_line : ViewDef → List ℕ
view_line view = line_text (codes "view") (view.name ∷ map decimal view.depths)

-- the one text of a schema that is written: no skipped line, LF alone, in the order of the schema
unfoldable pub schema_text : SchemaValue → List ℕ
schema_text schema =
    line_text (codes "cube") (version_text (version_of schema.dims) ∷ [])
    ++ policy_line schema.measures schema.policy
    ++ flat_map measure_line schema.measures
    ++ dims_text (version_of schema.dims) schema.names schema.dims
    ++ flat_map view_line schema.views
    ++ line_text (codes "end") []
