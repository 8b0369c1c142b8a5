-- The records of a file, by the crate `csv`'s own definition of the next record.
use Rattle.std.specs.Prelude.{◌≡◌, ℕ, ◌+◌, Bool, true, false, List, [], ◌∷◌, ◌++◌, length, Option, Some, None, ⊤}
use Rattle.std.specs.Borrow.{Bor}
use Rattle.std.specs.List.{flat_map}
use Rattle.std.specs.Global.{Vec}
use Rattle.csv.specs.Reading.{Ready, default_config, has_failed, is_flexible, reader_config, reader_state, reader_trim, records, records_from, source_of, strip_bom}
use Rattle.csv.specs.Records.{Row, fields_of, partial_of}
use Rattle.csv.specs.Writing.{default_writer, fields_written, has_written, row_text, writer_pending, writer_setup, writer_under}
use Rattle.csv.specs.declared.error.ErrorKind.{ErrorKind}
use Rattle.csv.specs.declared.error.ErrorKind.TheVariants as kind
use Rattle.csv.specs.declared.parser.State.{State}
use Rattle.csv.specs.declared.reader.Reader.{Reader}
use Rattle.csv.specs.declared.reader.Trim.TheVariants as trim
use Rattle.csv.specs.declared.writer.Writer.{Writer}

-- the records of a file: those after a byte order mark, if it begins with one
abbrev pub records_of : List ℕ → List (List (List ℕ))
records_of file = records default_config (strip_bom file)

-- the records of what a reader has before it, from a state; none where that is not known
abbrev pub records_in : State → Option (List ℕ) → List (List (List ℕ))
records_in state None = []
records_in state (Some bytes) = records_from default_config (length bytes + 1) state bytes

abbrev pub records_before : Reader (Bor (List ℕ)) → List (List (List ℕ))
records_before reader = records_in (reader_state reader) (source_of (λ bytes. Some bytes.now) reader)

-- how a file is read: the comma, the double quote, nothing trimmed, no header row of the reader's own, records of any length
pub record ReadsFile (reader : Reader (Bor (List ℕ))) : Type 0 where
  pub config : reader_config reader ≡ default_config
  pub trim : reader_trim reader ≡ trim.None
  pub flexible : is_flexible reader ≡ true
  pub ready : Ready reader

-- a reader of a file reads so until it runs out of memory
abbrev pub IsFileReader : Reader (Bor (List ℕ)) → Type 0
IsFileReader reader = has_failed reader ≡ false → ReadsFile reader

-- why a reader of a file may fail; that a slice of bytes fails, `csv` does not rule out
abbrev pub IsWant : ErrorKind → Type 0
IsWant kind.OutOfMemory = ⊤
IsWant (kind.Io _) = ⊤
IsWant (kind.Utf8 _ _) = ⊥
IsWant (kind.UnequalLengths _ _ _) = ⊥
IsWant (kind.Serialize _) = ⊥
IsWant (kind.Deserialize _ _) = ⊥

-- of the records before, the first is taken, or there is none
abbrev pub IsNext : Bool → List (List (List ℕ)) → List (List ℕ) → List (List (List ℕ)) → Type 0
IsNext true before row after = before ≡ row ∷ after
IsNext false before row after = before ≡ []

-- a row of these fields
pub record IsRecordRow (fields : List (List ℕ)) (row : Row) : Type 0 where
  pub fields_are : fields_of row ≡ fields
  pub whole : partial_of row ≡ []

-- a row that more fields stand in, after those of another
pub record IsLonger (before : Row) (fields : List (List ℕ)) (after : Row) : Type 0 where
  pub fields_are : fields_of after ≡ fields_of before ++ fields
  pub whole : partial_of after ≡ []

-- the text of records, one after the other
abbrev pub records_text : List (List (List ℕ)) → List ℕ
records_text records = flat_map (row_text default_writer) records

-- what was written
abbrev pub text_in : Writer (Vec ℕ) → List ℕ
text_in out = (writer_under out).items ++ writer_pending out

-- a writer between two records, as `csv` makes one where nothing is asked for
pub record IsWriting (out : Writer (Vec ℕ)) : Type 0 where
  pub setup : writer_setup out ≡ default_writer
  pub fields : fields_written out ≡ 0
  pub wrote : has_written out ≡ false

-- and the same once records were written
pub record Writes (before : Writer (Vec ℕ)) (records : List (List (List ℕ))) (after : Writer (Vec ℕ)) : Type 0 where
  pub writing : IsWriting after
  pub text : text_in after ≡ text_in before ++ records_text records
