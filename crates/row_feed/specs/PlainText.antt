-- Lines that no reader of a feed refuses for their bytes.
use Rattle.std.specs.Prelude.{◌≡◌, ◌≢◌, ℕ, ◌<◌, ◌^◌, List, All, false, length, true}
use Rattle.cube_base.specs.Name.{is_name}
use Rattle.cube_model.specs.declared.tree.Grow.{Grow as Leaf}
use Rattle.cube_model.specs.Cells.{AreRows}
use Rattle.cube_model.specs.Tree.{Dimension}
use Rattle.fact_keeper.specs.declared.content.KeptRows.{KeptRows}
use Rattle.text_lines.specs.LineText.{is_clean, is_long, is_skipped}
use Rattle.fact_records.specs.Valid.{IsEditOf}
use Rattle.schema_text.specs.Schema.{SchemaValue, shape_of}
use Rattle.script_text.specs.declared.line.Line.{Line}
use Rattle.script_text.specs.declared.line.Line.TheVariants as line
use Rattle.row_feed.specs.FeedText.{HasParent}

-- a line is clean, not long, not skipped, and has no LF in it
pub record IsPlainText (line : List ℕ) : Type 0 where
  pub clean : is_clean line ≡ true
  pub short : is_long line ≡ false
  pub stays : is_skipped line ≡ false
  pub lf : All (λ b. b ≢ 10) line

-- a leaf with a name, whose dimension and parent are there
pub record IsNamedLeaf (dims : List Dimension) (leaf : Leaf) : Type 0 where
  pub there : HasParent dims leaf
  pub named : is_name leaf.name ≡ true

-- an edit or a growth that may be written and read
abbrev pub IsWritten : SchemaValue → Line → Type 0
IsWritten schema line.Nothing = ⊥
IsWritten schema (line.Edit change) = IsEditOf (shape_of schema) schema.dims change
IsWritten schema (line.Grow leaf) = IsNamedLeaf schema.dims leaf
IsWritten schema (line.Ask asked) = ⊥

-- rows of cells that are there, whose numbers have at most 64 bits
pub record ArePrinted (dims : List Dimension) (kept : KeptRows) : Type 0 where
  pub cells : AreRows dims kept.rows
  pub id : kept.id < 2 ^ 64
  pub den : kept.den < 2 ^ 64
  pub count : length kept.rows < 2 ^ 64
  pub weights : All (λ row. row.1 < 2 ^ 64) kept.rows
