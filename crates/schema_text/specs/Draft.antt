-- What is known of a schema while its lines are read.
use Rattle.std.specs.Prelude.{◌≡◌, ℕ, ◌+◌, ◌≤◌, ◌<◌, true, false, List, [], ◌∷◌, ◌++◌, length, map, not, nat_le, nat_lt, ◌==◌, ◌&&◌, ◌||◌, if◌then◌else◌, Option, Some, None, is_none, All, ⊤, Result, Ok, Err}
use Rattle.std.specs.List.{list_all, list_any}
use Rattle.std.specs.Option.{option_map_or, option_or}
use Rattle.cube_base.specs.Name.{is_name}
use Rattle.cube_base.specs.declared.code.Code.{Code}
use Rattle.cube_base.specs.declared.code.Code.TheVariants as code
use Rattle.cube_model.specs.Accepted.{first_that_holds}
use Rattle.cube_model.specs.Limits.{MAX_COLS, MAX_DEPTH, MAX_DIMS, MAX_NODES, SPACE_LIMIT}
use Rattle.cube_model.specs.Tree.{Dimension, Entry, first_fault, is_numbered, node_lines, numbers}
use Rattle.text_lines.specs.LineText.{field_at, is_clean, is_long, without_cr}
use Rattle.text_lines.specs.Text.{fields_of}
use Rattle.fact_records.specs.declared.shape.Measure.{Measure}
use Rattle.fact_records.specs.Shape.{AreMeasures, HasScale, width_of, width_of_all}
use Rattle.region_algebra.specs.declared.view_def.ViewDef.{ViewDef}
use Rattle.region_algebra.specs.Space.{cell_total, region_total}
use Rattle.schema_text.specs.declared.word.SchemaWord.{SchemaWord}
use Rattle.schema_text.specs.declared.word.SchemaWord.TheVariants.{Dimension as DimensionWord, Node, View, End}
use Rattle.schema_text.specs.declared.word.Version.{Version}
use Rattle.schema_text.specs.declared.word.Version.TheVariants.{One, Two}
use Rattle.schema_text.specs.Schema.{AreNames, AreViews, IsKind, MAX_VIEWS}
use Rattle.schema_text.specs.SchemaText.{BadLine, Draft, ReadSchema, are_places_from, depth_fields, dims_of, ended, has_wrong_depths, has_wrong_names, is_weight_word, is_wrong_depth, is_wrong_name, may_follow, outcomes_of, policy_among, policy_named, read_depth, read_number, read_scale, schema_of_draft, version_named, word_named}

-- The nodes so far of a dimension.

-- nodes that may become a dimension, their numbers aside: each line of them was accepted after those before it
pub record AreNodes (nodes : Dimension) : Type 0 where
  pub lines : first_fault [] 0 (node_lines nodes) ≡ None
  pub few : length nodes ≤ MAX_NODES

-- a node that may come next after these, its number aside
pub record IsNextNode (before : Dimension) (node : Entry) : Type 0 where
  pub name : is_wrong_name node.name (map (λ n. n.name) before) ≡ false
  pub shallow : node.depth ≤ MAX_DEPTH
  pub depth : is_wrong_depth before node.depth ≡ false
  pub room : length before < MAX_NODES

-- a number that a node after these may have
abbrev pub IsNextNumber : Version → Dimension → ℕ → Type 0
IsNextNumber One nodes number = number ≡ length nodes
IsNextNumber Two nodes number = list_any (λ n. n == number) (numbers nodes) ≡ false

-- the numbers that are known to be taken: none in version 1, where nodes have their places, and in version 2 those of the nodes
abbrev pub AreTaken : Version → Dimension → List ℕ → Type 0
AreTaken One nodes taken = (are_places_from 0 nodes ≡ true) × (taken ≡ [])
AreTaken Two nodes taken = taken ≡ numbers nodes

-- the numbers that are taken with one more
abbrev pub taken_with : Version → List ℕ → ℕ → List ℕ
taken_with One taken number = taken
taken_with Two taken number = taken ++ number ∷ []

-- it is not taken, where the version gives numbers
abbrev pub IsFree : Version → List ℕ → ℕ → Type 0
IsFree One taken number = ⊤
IsFree Two taken number = list_any (λ n. n == number) taken ≡ false

-- why a version of these fields is refused
abbrev pub version_fault : List (List ℕ) → Option Code
version_fault fields = first_that_holds ((is_none (version_named (field_at fields 1)), code.Number) ∷ [])

-- why a node of these fields is refused after the nodes
abbrev pub node_fault : Version → Dimension → List (List ℕ) → Option Code
node_fault version nodes fields =
    first_that_holds
    ((is_wrong_name (field_at fields 2) (map (λ n. n.name) nodes), code.Name)
    ∷ (is_none (read_depth fields) || is_none (read_number version nodes fields), code.Number)
    ∷ (option_map_or (is_wrong_depth nodes) (read_depth fields) false, code.Depth)
    ∷ (nat_le MAX_NODES (length nodes), code.Limit) ∷ [])

-- why the policy of these fields is refused
abbrev pub policy_fault : List (List ℕ) → Option Code
policy_fault fields =
    first_that_holds
    ((is_weight_word (field_at fields 1) && not (is_name (field_at fields 2)), code.Name)
    ∷ (is_none (policy_named (field_at fields 1) (field_at fields 2)), code.Policy) ∷ [])

-- why a number measure of these fields is refused after the measures, and why a distribution is
abbrev pub number_fault : List Measure → List (List ℕ) → Option Code
number_fault measures fields =
    first_that_holds ((is_wrong_name (field_at fields 1) (map (λ m. m.name) measures), code.Name) ∷ (nat_lt MAX_COLS (width_of_all measures + 1), code.Limit) ∷ [])

abbrev pub parts_fault : List Measure → List (List ℕ) → Option Code
parts_fault measures fields =
    first_that_holds
    ((is_wrong_name (field_at fields 1) (map (λ m. m.name) measures) || has_wrong_names [] (outcomes_of fields), code.Name)
    ∷ (is_none (read_scale fields), code.Number)
    ∷ (nat_lt MAX_COLS (width_of_all measures + length (outcomes_of fields)), code.Limit) ∷ [])

-- why the outcomes and the scale of a distribution of these fields are refused
abbrev pub kind_fault : List (List ℕ) → Option Code
kind_fault fields = first_that_holds ((has_wrong_names [] (outcomes_of fields), code.Name) ∷ (is_none (read_scale fields), code.Number) ∷ [])

-- why a dimension of these fields is refused after those of these names, the last of which ends with the nodes
abbrev pub dimension_fault : List (List ℕ) → Dimension → List (List ℕ) → Option Code
dimension_fault names nodes fields =
    first_that_holds
    ((is_wrong_name (field_at fields 1) names, code.Name)
    ∷ (not (list_all is_numbered (ended nodes)), code.Number)
    ∷ (nat_le MAX_DIMS (length names), code.Limit) ∷ [])

-- why the name and the depths of a view of these fields are refused after the views, and why a view is where the nodes
-- end
abbrev pub view_fields_fault : List ViewDef → List (List ℕ) → Option Code
view_fields_fault views fields =
    first_that_holds ((is_wrong_name (field_at fields 1) (map (λ v. v.name) views), code.Name) ∷ (has_wrong_depths (depth_fields fields), code.Number) ∷ [])

abbrev pub view_fault : List ViewDef → Dimension → List (List ℕ) → Option Code
view_fault views nodes fields =
    first_that_holds
    ((is_wrong_name (field_at fields 1) (map (λ v. v.name) views), code.Name)
    ∷ (has_wrong_depths (depth_fields fields) || not (list_all is_numbered (ended nodes)), code.Number)
    ∷ (nat_le MAX_VIEWS (length views), code.Limit) ∷ [])

-- why a view more than these is refused
abbrev pub room_fault : List ViewDef → Option Code
room_fault views = first_that_holds ((nat_le MAX_VIEWS (length views), code.Limit) ∷ [])

-- why the numbers of the dimension that ends here are refused
abbrev pub ended_fault : Dimension → Option Code
ended_fault nodes = if list_all is_numbered (ended nodes) then None else Some code.Number

-- The draft.

-- a word, where it may follow another
abbrev pub may_stand : Option SchemaWord → Option SchemaWord → Result SchemaWord Code
may_stand last None = Err code.Order
may_stand last (Some word) = if may_follow last word then Ok word else Err code.Order

-- the word of a line that may follow another, or why there is none
abbrev pub word_in : Option SchemaWord → List ℕ → Result SchemaWord Code
word_in last line =
    if is_long line then Err code.Long
    else (if is_clean (without_cr line) then may_stand last (word_named (field_at (fields_of (without_cr line)) 0)) else Err code.Text)

-- how many dimensions are named and not ended, by the word of the last line
abbrev pub open_count : Option SchemaWord → ℕ
open_count (Some DimensionWord) = 1
open_count (Some Node) = 1
open_count word = 0

-- nodes are there after the line of a node, and there alone
abbrev pub HasNodes : Option SchemaWord → Dimension → Type 0
HasNodes (Some Node) nodes = 1 ≤ length nodes
HasNodes word nodes = nodes ≡ []

-- after the line of a view there are dimensions, and there alone views
abbrev pub HasViews : Option SchemaWord → List Dimension → List ViewDef → Type 0
HasViews (Some View) dims views = 1 ≤ length dims
HasViews word dims views = views ≡ []

-- a measure that may come next after these
pub record IsNextMeasure (before : List Measure) (measure : Measure) : Type 0 where
  pub name : is_wrong_name measure.name (map (λ m. m.name) before) ≡ false
  pub kind : IsKind measure.kind
  pub scale : HasScale measure.kind
  pub some : 1 ≤ width_of measure.kind
  pub order : measure.first_col ≡ 1 + width_of_all before
  pub room : width_of_all before + width_of measure.kind ≤ MAX_COLS

-- what accepted lines say
pub record IsDraft (draft : Draft) : Type 0 where
  pub measures : AreMeasures draft.measures
  pub kinds : All (λ m. IsKind m.kind) draft.measures
  pub measure_names : All (λ m. is_name m.name ≡ true) draft.measures
  pub names : AreNames draft.names
  pub few : length draft.names ≤ MAX_DIMS
  pub named : length draft.names ≡ length draft.dims + open_count draft.last
  pub some : HasNodes draft.last draft.nodes
  pub nodes : AreNodes draft.nodes
  pub viewed : HasViews draft.last draft.dims draft.views
  pub views : AreViews (length draft.names) draft.views

-- why the line `end` is refused before the dimensions are looked at together, and why these are
abbrev pub front_fault : Draft → Option Code
front_fault draft =
    if may_follow draft.last End
    then first_that_holds ((not (list_all is_numbered (ended draft.nodes)), code.Number) ∷ (is_none (policy_among draft.measures draft.policy), code.Policy) ∷ [])
    else Some code.Order

abbrev pub size_code : List Dimension → Option Code
size_code dims = first_that_holds ((nat_le SPACE_LIMIT (cell_total dims), code.Cells) ∷ (nat_le SPACE_LIMIT (region_total dims), code.Nodes) ∷ [])

abbrev pub end_fault : Draft → Option Code
end_fault draft = option_or (front_fault draft) (size_code (dims_of draft))

-- what a text says whose lines before `end` are accepted and make this draft, where `end` is the line of this number and the text
-- has so many bytes up to there
abbrev pub read_with : Draft → ℕ → ℕ → Result ReadSchema BadLine
read_with draft lines size = option_map_or (λ reason. Err (record { line = lines; reason = reason })) (end_fault draft) (Ok (record { schema = schema_of_draft draft; size = size }))
