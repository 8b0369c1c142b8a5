-- The lines of an input that hold a schema, and how an input is taken up to them.
use Rattle.std.specs.Prelude.{◌≡◌, ℕ, ◌+◌, ◌≤◌, Bool, true, false, List, [], ◌∷◌, ◌++◌, ◌⊎◌, length, map, take, drop, position, IfSome, IsSomeAnd, Ok, Err}
use Rattle.std.specs.Option.{option_map_or}
use Rattle.std.specs.List.{flat_map, list_any}
use Rattle.std.specs.Io.KnownBytes.{Consumes, IsAtEnd}
use Rattle.text_lines.specs.Text.{lines_of}
use Rattle.text_lines.specs.Input.{INPUT_LIMIT, TakesAtMost}
use Rattle.text_lines.specs.Pieces.{ended_lines, front, line_end, pieces_of}
use Rattle.text_lines.specs.Reading.{PIECE_LIMIT}
use Rattle.text_lines.specs.declared.input.InputStop.{InputStop}
use Rattle.text_lines.specs.declared.input.InputStop.TheVariants as input_stop
use Rattle.schema_text.specs.Schema.{SchemaValue}
use Rattle.schema_text.specs.SchemaText.{is_end, schema_of}
use Rattle.script_run.specs.Seen.{NoReadFault, ReadFailed, SourceSeen}
use Rattle.cube_cli.specs.Seen.{Took}
use Rattle.cube_cli.specs.declared.schema_lines.HeadStop.{HeadStop}
use Rattle.cube_cli.specs.declared.schema_lines.HeadStop.TheVariants as head_stop

-- how many lines of an input hold its schema: those up to and with the first line `end`, or all; and how many bytes they have
abbrev pub schema_lines : List ℕ → ℕ
schema_lines input = option_map_or (λ k. k + 1) (position is_end (lines_of input)) (length (lines_of input))

abbrev pub schema_bytes : List ℕ → ℕ
schema_bytes input = line_end input (schema_lines input)

-- the line `end` is among the lines that end in a text
abbrev pub has_end : List ℕ → Bool
has_end text = list_any is_end (ended_lines text)

-- lines, each with its LF
abbrev pub text_of_lines : List (List ℕ) → List ℕ
text_of_lines lines = flat_map (λ line. line ++ 10 ∷ []) lines

-- Lines were taken after a text, up to and with the first line `end` where there is one, else all: then the rest is
-- held.
abbrev pub TookHeld : List (List ℕ) → List ℕ → List ℕ → List ℕ → List (List ℕ) → Bool → Type 0
TookHeld lines rest before after left false = (list_any is_end lines ≡ false) × (after ≡ before ++ text_of_lines lines) × (left ≡ rest ∷ [])
TookHeld lines rest before after left true = IsSomeAnd (position is_end lines) (λ k. (after ≡ before ++ text_of_lines (take (k + 1) lines)) × (left ≡ drop (k + 1) lines ++ rest ∷ []))

-- an input begins with so many bytes that hold its schema, and the lines of a text are the lines of these, of each its front
pub record HasSchemaLines (input : List ℕ) (size : ℕ) (text : List ℕ) : Type 0 where
  pub size_is : size ≡ schema_bytes input
  pub lines : lines_of text ≡ map front (take (schema_lines input) (lines_of input))

-- it is so of what was taken, whatever follows, or of the whole input
pub record HoldsSchemaLines (source : SourceSeen) (taken : List ℕ) (size : ℕ) (text : List ℕ) : Type 0 where
  pub holds : ((more : List ℕ) → HasSchemaLines (taken ++ more) size text) ⊎ (IsAtEnd source.left_after × HasSchemaLines taken size text)

-- the last of the bytes that were taken is in no later piece than the byte after these
pub record IsLastPiece (taken : List ℕ) (size : ℕ) : Type 0 where
  pub before : List ℕ
  pub last : List ℕ
  pub split : taken ≡ before ++ last
  pub piece : length last ≤ PIECE_LIMIT
  pub behind : length before ≤ size

-- Bytes were taken that hold the lines of a schema, and what is left of them is held.
pub record TookLines (source : SourceSeen) (room_after : ℕ) (held_after : List (List ℕ)) (text : List ℕ) : Type 0 where
  pub taken : List ℕ
  pub bytes : Consumes source.left source.left_after taken
  pub room : room_after + length taken ≡ INPUT_LIMIT
  pub size : ℕ
  pub within : size ≤ length taken
  pub held : held_after ≡ pieces_of (drop size taken)
  pub holds : HoldsSchemaLines source taken size text
  pub last : IsLastPiece taken size

-- Why they were not: a read failed, the byte came that is one too many, or it ran out of memory, before the line `end`.
pub record LacksEnd (taken : List ℕ) : Type 0 where
  pub few : length taken ≤ INPUT_LIMIT
  pub no_end : has_end taken ≡ false

pub record TookTooMuch (source : SourceSeen) : Type 0 where
  pub taken : List ℕ
  pub byte : ℕ
  pub bytes : Consumes source.left source.left_after (taken ++ byte ∷ [])
  pub all : length taken ≡ INPUT_LIMIT
  pub no_end : has_end taken ≡ false

abbrev pub StopsBeforeEnd : SourceSeen → InputStop → Type 0
StopsBeforeEnd source input_stop.Fault = ReadFailed source × Took source LacksEnd
StopsBeforeEnd source input_stop.TooLong = NoReadFault source × TookTooMuch source
StopsBeforeEnd source input_stop.Memory = NoReadFault source × TakesAtMost INPUT_LIMIT source.left source.left_after

-- it is the schema of what was taken, whatever follows, or of the whole input
pub record BeginsWith (source : SourceSeen) (taken : List ℕ) (size : ℕ) (schema : SchemaValue) : Type 0 where
  pub begins : ((more : List ℕ) → schema_of (taken ++ more) ≡ Ok (record { schema = schema; size = size })) ⊎ (IsAtEnd source.left_after × (schema_of taken ≡ Ok (record { schema = schema; size = size })))

-- Bytes were taken that begin with a schema, and what is left of them is held.
pub record TookSchema (source : SourceSeen) (room_after : ℕ) (held_after : List (List ℕ)) (schema : SchemaValue) : Type 0 where
  pub taken : List ℕ
  pub bytes : Consumes source.left source.left_after taken
  pub room : room_after + length taken ≡ INPUT_LIMIT
  pub size : ℕ
  pub within : size ≤ length taken
  pub held : held_after ≡ pieces_of (drop size taken)
  pub is : BeginsWith source taken size schema
  pub last : IsLastPiece taken size

-- no more of an input was taken than to the line `end`, or than all of it, and one piece
abbrev pub TookToEnd : SourceSeen → List ℕ → Type 0
TookToEnd source input = TakesAtMost (schema_bytes input + PIECE_LIMIT) source.left source.left_after

-- Why no schema was taken: the input is not taken up to its line `end`, or this is its first line at fault, and why.
abbrev pub HasHeadCause : SourceSeen → HeadStop → Type 0
HasHeadCause source (head_stop.Input stop) = StopsBeforeEnd source stop
HasHeadCause source (head_stop.Bad line why) = NoReadFault source × TakesAtMost INPUT_LIMIT source.left source.left_after
    × IfSome source.left (λ input. (schema_of input ≡ Err (record { line = line; reason = why })) × TookToEnd source input)
