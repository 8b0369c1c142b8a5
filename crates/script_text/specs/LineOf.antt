-- What an accepted line of a script names is there.
use Rattle.std.specs.Prelude.{◌≡◌, ℕ, ◌<◌, ◌≤◌, List, All, length, Err, IsOkAnd, ⊤}
use Rattle.cube_model.specs.Facts.{IsId}
use Rattle.cube_model.specs.Limits.{MAX_DEPTH}
use Rattle.cube_model.specs.Tree.{Dimension}
use Rattle.region_algebra.specs.Space.{IsRegion}
use Rattle.fact_records.specs.declared.measure_reader.MeasureKind.{MeasureKind}
use Rattle.fact_records.specs.MeasureFields.{IsMeasureOf}
use Rattle.fact_records.specs.Valid.{IsEditOf}
use Rattle.schema_text.specs.Growth.{IsGrowOf}
use Rattle.schema_text.specs.Schema.{SchemaValue, shape_of}
use Rattle.script_text.specs.declared.line.Line.{Line}
use Rattle.script_text.specs.declared.line.Line.TheVariants as line
use Rattle.script_text.specs.declared.line.Question.{Question}
use Rattle.script_text.specs.declared.line.Question.TheVariants.{OfRegion, OfMeasure, OfId, OfView, OfRounds, OfTable, OfMeasureTable}
use Rattle.script_text.specs.declared.line.LineFault.{LineFault}
use Rattle.script_text.specs.declared.line.LineFault.TheVariants as fault
use Rattle.script_text.specs.ScriptLine.{MAX_ROUNDS, MIN_ROUNDS, line_of}
use Rattle.script_text.specs.ScriptWord.{each_of, kind_of}

-- a measure of a kind, by its place, and a region
pub record IsMeasureOver (schema : SchemaValue) (wanted : MeasureKind) (measure : ℕ) (region : List ℕ) : Type 0 where
  pub nodes : IsRegion schema.dims region
  pub known : IsMeasureOf (shape_of schema) wanted measure

-- a number of rounds, and a region
pub record AreRoundsOver (dims : List Dimension) (rounds : ℕ) (region : List ℕ) : Type 0 where
  pub some : MIN_ROUNDS ≤ rounds
  pub few : rounds ≤ MAX_ROUNDS
  pub nodes : IsRegion dims region

-- a depth for each dimension, none below the deepest that a node may lie, and a region
pub record IsTable (dims : List Dimension) (depths region : List ℕ) : Type 0 where
  pub each : length depths ≡ length dims
  pub shallow : All (λ depth. depth ≤ MAX_DEPTH) depths
  pub nodes : IsRegion dims region

-- and a measure of a kind, by its place
pub record IsMeasureTable (schema : SchemaValue) (wanted : MeasureKind) (measure : ℕ) (depths region : List ℕ) : Type 0 where
  pub table : IsTable schema.dims depths region
  pub known : IsMeasureOf (shape_of schema) wanted measure

-- what a question names is there
abbrev pub IsQuestionOf : SchemaValue → Question → Type 0
IsQuestionOf schema (OfRegion word region) = IsRegion schema.dims region
IsQuestionOf schema (OfMeasure word measure region) = IsMeasureOver schema (kind_of word) measure region
IsQuestionOf schema (OfId word id) = IsId id
IsQuestionOf schema (OfView word view) = view < length schema.views
IsQuestionOf schema (OfRounds word rounds region) = AreRoundsOver schema.dims rounds region
IsQuestionOf schema (OfTable word depths region) = IsTable schema.dims depths region
IsQuestionOf schema (OfMeasureTable word measure depths region) = IsMeasureTable schema (kind_of (each_of word)) measure depths region

-- what a line names is there
abbrev pub IsLineOf : SchemaValue → Line → Type 0
IsLineOf schema line.Nothing = ⊤
IsLineOf schema (line.Edit change) = IsEditOf (shape_of schema) schema.dims change
IsLineOf schema (line.Grow grow) = IsGrowOf schema.dims grow
IsLineOf schema (line.Ask asked) = IsQuestionOf schema asked

-- a line lets a dimension grow
abbrev pub IsGrowth : Line → Type 0
IsGrowth line.Nothing = ⊥
IsGrowth (line.Edit change) = ⊥
IsGrowth (line.Grow grow) = ⊤
IsGrowth (line.Ask asked) = ⊥

-- where a line is refused, this is its code; there is no memory for a line that lets a dimension grow, which has a name, and for no other
abbrev pub IsLineFaultOf : SchemaValue → List ℕ → LineFault → Type 0
IsLineFaultOf schema bytes (fault.Code refusal) = line_of schema bytes ≡ Err refusal
IsLineFaultOf schema bytes fault.Memory = IsOkAnd (line_of schema bytes) IsGrowth
