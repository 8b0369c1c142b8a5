-- What a line of a feed says over a schema, and why it may be refused.
use Rattle.std.specs.Prelude.{◌≡◌, ℕ, ◌+◌, ◌-◌, ◌^◌, Bool, List, [], ◌∷◌, drop, length, nat_le, ◌==◌, if◌then◌else◌, codes, Result, Ok, Err, IsOkAnd, ⊤}
use Rattle.std.specs.List.{list_any}
use Rattle.std.specs.Option.{option_map_or}
use Rattle.std.specs.Str.{bytes_eq}
use Rattle.cube_base.specs.declared.code.Code.{Code}
use Rattle.cube_base.specs.declared.code.Code.TheVariants as code
use Rattle.text_lines.specs.LineText.{field_at, is_clean, is_long}
use Rattle.text_lines.specs.Text.{fields_of, number_in}
use Rattle.fact_records.specs.Fields.{fact_given, result_then}
use Rattle.fact_records.specs.Valid.{IsFactOf}
use Rattle.schema_text.specs.Schema.{SchemaValue, shape_of}
use Rattle.script_text.specs.declared.line.Line.{Line}
use Rattle.script_text.specs.declared.line.Line.TheVariants as line
use Rattle.script_text.specs.declared.line.LineFault.{LineFault}
use Rattle.script_text.specs.declared.line.LineFault.TheVariants as fault
use Rattle.script_text.specs.LineOf.{IsGrowth, IsLineOf}
use Rattle.script_text.specs.ScriptLine.{command_line}
use Rattle.script_text.specs.ScriptWord.{word_spelled}
use Rattle.row_feed.specs.declared.feed_line.FeedLine.{FeedLine}
use Rattle.row_feed.specs.declared.feed_line.FeedLine.TheVariants.{Fact, Based, Batch, Other}

-- the words of a script that edit or grow
abbrev pub SAID_WORDS : List (List ℕ)
SAID_WORDS = codes "insert" ∷ codes "change" ∷ codes "withdraw" ∷ codes "grow" ∷ []

abbrev pub is_said_word : List ℕ → Bool
is_said_word field = list_any (λ word. bytes_eq field word) SAID_WORDS

-- the edit or the growth that the fields after a batch's number say, or why they say none
abbrev pub rest_given : SchemaValue → List (List ℕ) → Result Line Code
rest_given schema fields = if is_said_word (field_at fields 0) then command_line schema fields (word_spelled (field_at fields 0)) else Err code.Command

-- the greatest number of a batch
abbrev pub MAX_NUMBER : ℕ
MAX_NUMBER = 2 ^ 64 - 1

-- what all fields of a line say whose first is `fact`, `based` or `batch`: first their number is judged
abbrev pub fact_line_given : SchemaValue → List (List ℕ) → Result FeedLine Code
fact_line_given schema fields =
    if length fields == 2 + length schema.dims + length schema.measures then result_then (λ fact. Ok (Fact fact)) (fact_given schema.dims (shape_of schema) (drop 1 fields)) else Err code.Fields

abbrev pub based_given : List (List ℕ) → Result FeedLine Code
based_given fields = if length fields == 1 then Ok Based else Err code.Fields

abbrev pub batch_given : SchemaValue → List (List ℕ) → Result FeedLine Code
batch_given schema fields =
    if nat_le 3 (length fields) then option_map_or (λ number. Ok (Batch number (rest_given schema (drop 2 fields)))) (number_in 0 MAX_NUMBER (field_at fields 1)) (Err code.Number)
    else Err code.Fields

-- what fields say, by the first of them
abbrev pub feed_fields_given : SchemaValue → List (List ℕ) → Result FeedLine Code
feed_fields_given schema fields =
    if bytes_eq (field_at fields 0) (codes "fact") then fact_line_given schema fields
    else (if bytes_eq (field_at fields 0) (codes "based") then based_given fields
    else (if bytes_eq (field_at fields 0) (codes "batch") then batch_given schema fields else Ok Other))

-- What a line says, or the first of the codes that holds. No CR is taken off, and none is clean.
unfoldable pub feed_line_of : SchemaValue → List ℕ → Result FeedLine Code
feed_line_of schema bytes = if is_long bytes then Err code.Long else (if is_clean bytes then feed_fields_given schema (fields_of bytes) else Err code.Text)

-- an edit or a growth
abbrev pub IsChangeLine : Line → Type 0
IsChangeLine line.Nothing = ⊥
IsChangeLine (line.Edit change) = ⊤
IsChangeLine (line.Grow leaf) = ⊤
IsChangeLine (line.Ask asked) = ⊥

-- what a batch says changes the cube, and what it names is there
pub record IsChangeOf (schema : SchemaValue) (said : Line) : Type 0 where
  pub there : IsLineOf schema said
  pub change : IsChangeLine said

-- what a line names is there
abbrev pub IsFeedLineOf : SchemaValue → FeedLine → Type 0
IsFeedLineOf schema (Fact fact) = IsFactOf (shape_of schema) schema.dims fact
IsFeedLineOf schema Based = ⊤
IsFeedLineOf schema (Batch number (Ok said)) = IsChangeOf schema said
IsFeedLineOf schema (Batch number (Err refusal)) = ⊤
IsFeedLineOf schema Other = ⊤

-- a line says a batch whose line lets a dimension grow
abbrev pub IsGrowthBatch : FeedLine → Type 0
IsGrowthBatch (Fact fact) = ⊥
IsGrowthBatch Based = ⊥
IsGrowthBatch (Batch number (Ok said)) = IsGrowth said
IsGrowthBatch (Batch number (Err refusal)) = ⊥
IsGrowthBatch Other = ⊥

-- where a line is refused, this is its code; it may be out of memory for the name of a growth, and for nothing else
abbrev pub IsFeedFaultOf : SchemaValue → List ℕ → LineFault → Type 0
IsFeedFaultOf schema bytes (fault.Code refusal) = feed_line_of schema bytes ≡ Err refusal
IsFeedFaultOf schema bytes fault.Memory = IsOkAnd (feed_line_of schema bytes) IsGrowthBatch
