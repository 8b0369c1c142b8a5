-- The lines of a feed, each without its LF: what a cube begins with, and then a batch for each edit or growth.
use Rattle.std.specs.Prelude.{ℕ, ◌<◌, List, [], ◌∷◌, ◌++◌, All, IfSome, codes, length, map, slice_get, ⊤}
use Rattle.std.specs.Fmt.{decimal}
use Rattle.std.specs.List.{flat_map}
use Rattle.std.specs.Option.{option_map_or}
use Rattle.cube_model.specs.declared.edit.Edit.{Edit}
use Rattle.cube_model.specs.declared.edit.Edit.TheVariants.{Put, Change, Withdraw}
use Rattle.cube_model.specs.declared.edit.Fact.{Fact}
use Rattle.cube_model.specs.declared.tree.Grow.{Grow as Leaf}
use Rattle.cube_model.specs.Cells.{AreRows}
use Rattle.cube_model.specs.Tree.{Dimension}
use Rattle.fact_keeper.specs.declared.content.Batch.{Batch}
use Rattle.fact_keeper.specs.declared.content.KeptRows.{KeptRows}
use Rattle.text_lines.specs.LineText.{field_at}
use Rattle.text_lines.specs.Text.{lines_of}
use Rattle.fact_records.specs.Valid.{IsFactOf}
use Rattle.schema_text.specs.Schema.{SchemaValue, shape_of}
use Rattle.schema_text.specs.SchemaText.{schema_text}
use Rattle.script_text.specs.declared.line.Line.{Line}
use Rattle.script_text.specs.declared.line.Line.TheVariants as line
use Rattle.script_text.specs.Reply.{name_of, row_fields}
use Rattle.fact_fields.specs.FactRow.{record_of}

-- the bytes of lines, each ended by LF
abbrev pub feed_bytes : List (List ℕ) → List ℕ
feed_bytes lines = flat_map (λ line. line ++ 10 ∷ []) lines

-- a line of fields: the first, then a TAB and a field each
abbrev pub fields_line : List ℕ → List (List ℕ) → List ℕ
fields_line first fields = first ++ flat_map (λ field. 9 ∷ field) fields

-- the line of a fact that was there before
abbrev pub fact_line : SchemaValue → Fact → List ℕ
fact_line schema fact = fields_line (codes "fact") (record_of schema fact)

-- what a feed begins with: its version, the schema, the facts, and that these are all
abbrev pub base_lines : SchemaValue → List Fact → List (List ℕ)
base_lines schema facts = fields_line (codes "feed") (codes "1" ∷ []) ∷ lines_of (schema_text schema) ++ map (fact_line schema) facts ++ codes "based" ∷ []

-- the name of a node of the dimension at a place
abbrev pub node_name : List Dimension → ℕ → ℕ → List ℕ
node_name dims dim node = option_map_or (λ tree. name_of tree node) (slice_get dims dim) []

-- the fields of an edit, and those of a growth, by the names that a schema has
abbrev pub edit_fields : SchemaValue → Edit → List (List ℕ)
edit_fields schema (Put fact) = codes "insert" ∷ record_of schema fact
edit_fields schema (Change fact) = codes "change" ∷ record_of schema fact
edit_fields schema (Withdraw id) = codes "withdraw" ∷ decimal id ∷ []

abbrev pub growth_fields : SchemaValue → Leaf → List (List ℕ)
growth_fields schema leaf = codes "grow" ∷ field_at schema.names leaf.dim ∷ node_name schema.dims leaf.dim leaf.parent ∷ leaf.name ∷ []

-- the fields of a line of a script that edits or grows, over the schema after it; none of any other
abbrev pub said_fields : SchemaValue → Line → List (List ℕ)
said_fields schema line.Nothing = []
said_fields schema (line.Edit change) = edit_fields schema change
said_fields schema (line.Grow leaf) = growth_fields schema leaf
said_fields schema (line.Ask asked) = []

-- the lines of a fact's rows: its id, their denominator and how many they are; then a line each
abbrev pub rows_head : KeptRows → List ℕ
rows_head kept = fields_line (codes "rows") (decimal kept.id ∷ decimal kept.den ∷ decimal (length kept.rows) ∷ [])

abbrev pub row_line : List Dimension → ℕ × ℕ → List ℕ
row_line dims row = fields_line (codes "row") (row_fields dims row)

abbrev pub rows_lines : List Dimension → KeptRows → List (List ℕ)
rows_lines dims kept = rows_head kept ∷ map (row_line dims) kept.rows

-- the lines after that of a batch: the rows of each fact, as the batch has them, and that these are all
abbrev pub behind_lines : List Dimension → Batch → List (List ℕ)
behind_lines dims batch = flat_map (rows_lines dims) batch.rows ++ codes "done" ∷ []

-- a batch: its number, what was said, and the lines that follow
abbrev pub batch_lines : SchemaValue → ℕ → Line → Batch → List (List ℕ)
batch_lines schema number said batch = fields_line (codes "batch") (decimal number ∷ said_fields schema said) ∷ behind_lines schema.dims batch

-- the fact of an edit, if it has one, is one over a schema
abbrev pub IsSaidEdit : SchemaValue → Edit → Type 0
IsSaidEdit schema (Put fact) = IsFactOf (shape_of schema) schema.dims fact
IsSaidEdit schema (Change fact) = IsFactOf (shape_of schema) schema.dims fact
IsSaidEdit schema (Withdraw id) = ⊤

-- the dimension of a leaf is there, and its parent
pub record HasParent (dims : List Dimension) (leaf : Leaf) : Type 0 where
  pub dim : leaf.dim < length dims
  pub parent : IfSome (slice_get dims leaf.dim) (λ tree. leaf.parent < length tree)

-- a line edits or grows, and what it names is there
abbrev pub IsSaid : SchemaValue → Line → Type 0
IsSaid schema line.Nothing = ⊥
IsSaid schema (line.Edit change) = IsSaidEdit schema change
IsSaid schema (line.Grow leaf) = HasParent schema.dims leaf
IsSaid schema (line.Ask asked) = ⊥

-- the cells of rows are there
abbrev pub AreRowsOf : List Dimension → List KeptRows → Type 0
AreRowsOf dims entries = All (λ kept. AreRows dims kept.rows) entries
