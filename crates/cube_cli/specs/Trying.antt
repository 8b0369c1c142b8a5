-- What an input is that begins with a schema: the lines of a script after it, done on a cube without facts.
use Rattle.std.specs.Prelude.{ℕ, ◌+◌, List, [], drop, false, Option, Result}
use Rattle.std.specs.Option.{option_map, option_map_or}
use Rattle.std.specs.Result.{result_ok}
use Rattle.cube_model.specs.declared.statistic.CellStat.{CellStat}
use Rattle.text_lines.specs.Pieces.{lf_count, line_end}
use Rattle.schema_text.specs.Schema.{SchemaValue}
use Rattle.schema_text.specs.SchemaText.{ReadSchema, schema_of}
use Rattle.script_run.specs.declared.streaming.StreamStop.{StreamStop}
use Rattle.script_run.specs.Run.{Outcome, empty_state, run_of}
use Rattle.script_run.specs.Seen.{KeeperSeen, SinkSeen, SourceSeen}
use Rattle.script_run.specs.Stream.{EndsStream}
use Rattle.text_lines.specs.Text.{lines_of}

-- the schema of an input, where it is accepted
abbrev pub schema_in : List ℕ → Option ReadSchema
schema_in input = result_ok (schema_of input)

-- the lines of an input's script
abbrev pub script_of : List ℕ → ReadSchema → List (List ℕ)
script_of input read = lines_of (drop read.size input)

-- what a whole input does: the lines after its schema are done on a cube without facts
abbrev pub outcome_of : List ℕ → Option Outcome
outcome_of input = option_map (λ read. run_of read.schema (script_of input read)) (schema_in input)

-- the replies to an input's lines, and how many of these are refused; there is none without a schema
abbrev pub replies_of : List ℕ → List (List ℕ)
replies_of input = option_map_or (λ outcome. outcome.replies) (outcome_of input) []

abbrev pub count_refused : List ℕ → ℕ
count_refused input = option_map_or (λ outcome. outcome.refused) (outcome_of input) 0

-- how many lines of its script end in what was taken of an input, and how many bytes it has up to and with the LF of its script's
-- n-th line
abbrev pub script_lines_in : List ℕ → List ℕ → ℕ
script_lines_in input taken = option_map_or (λ read. lf_count (drop read.size taken)) (schema_in input) 0

abbrev pub script_line_end : List ℕ → ℕ → ℕ
script_line_end input n = option_map_or (λ read. read.size + line_end (drop read.size input) n) (schema_in input) 0

-- What the run of a script says that is done without a keeper: it holds whatever is seen of one, since nothing is said of it.
abbrev pub EndsUnkept : (CellStat → ℕ) → SchemaValue → List ℕ → ℕ → SourceSeen → SinkSeen → Result ℕ StreamStop → Type 0
EndsUnkept weigh schema text room source sink result =
    (keeper : KeeperSeen) → EndsStream (record { weigh = weigh; schema = schema; first = empty_state schema; keeps = false }) text room (record { source = source; sink = sink; keeper = keeper }) result
