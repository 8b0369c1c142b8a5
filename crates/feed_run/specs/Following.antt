-- A follower of a feed: where it stands between two lines, what a line does, and what all lines do.
use Rattle.std.specs.Prelude.{ℕ, ◌+◌, ◌-◌, Bool, List, [], ◌∷◌, ◌++◌, codes, length, map, nat_le, not, take, ◌==◌, ◌&&◌, ◌||◌, if◌then◌else◌, Option, Some, None, Result, Ok, Err}
use Rattle.std.specs.List.{range_with_len}
use Rattle.std.specs.Option.{option_map, option_map_or}
use Rattle.std.specs.Ordering.{int_eq}
use Rattle.std.specs.Cmp.Lexicographic.{pointwise}
use Rattle.std.specs.Str.{bytes_eq}
use Rattle.std.specs.Fmt.{decimal}
use Rattle.cube_base.specs.declared.code.Code.{Code}
use Rattle.cube_base.specs.declared.code.Code.TheVariants as code
use Rattle.cube_model.specs.declared.edit.Fact.{Fact}
use Rattle.cube_model.specs.Accepted.{first_refusal, first_that_holds, has_many_rows}
use Rattle.cube_model.specs.Allocation.{extended}
use Rattle.cube_model.specs.Limits.{MAX_FACTS}
use Rattle.cube_model.specs.Tree.{Dimension}
use Rattle.edit_plan.specs.Plan.{kept_fact, kept_rows}
use Rattle.fact_keeper.specs.declared.content.Batch.{Batch}
use Rattle.fact_records.specs.Accepted.{region_refusal}
use Rattle.row_feed.specs.declared.feed_line.FeedLine.{FeedLine}
use Rattle.row_feed.specs.declared.feed_line.FeedLine.TheVariants as feed
use Rattle.row_feed.specs.FeedLine.{feed_line_of}
use Rattle.row_feed.specs.FeedText.{behind_lines, feed_bytes}
use Rattle.schema_text.specs.Schema.{SchemaValue, policy_of, weigh_of}
use Rattle.schema_text.specs.SchemaText.{BadLine, ReadSchema, is_end, schema_of, schema_text}
use Rattle.script_run.specs.Kept.{batches_of}
use Rattle.script_run.specs.Run.{Step, State, schema_at, step_of}
use Rattle.script_text.specs.declared.line.Line.{Line}
use Rattle.script_text.specs.declared.reply.Reply.{Reply}
use Rattle.script_text.specs.declared.reply.Reply.TheVariants.{Refused}
use Rattle.text_lines.specs.LineText.{field_at, is_clean, is_long}
use Rattle.text_lines.specs.Text.{fields_of, line_text}
use Rattle.feed_run.specs.declared.feed_stop.FeedStop.{FeedStop}
use Rattle.feed_run.specs.declared.feed_stop.FeedStop.TheVariants as feed_stop

-- What the follower's store holds where there is something in it: the one text of its schema, and its facts.
pub record Base : Type 0 where
  pub text : List ℕ
  pub facts : List Fact

-- What the follower has of the leader's cube: the schema of the base, dimensions and facts as they stand, and how many batches are applied.
pub record Work : Type 0 where
  pub schema : SchemaValue
  pub state : State
  pub applied : ℕ

-- Where a follower stands between two lines: before the first; among the lines of the schema; among the facts of the
-- base; after `based` or a whole batch; or within a batch, of which these lines are still to come, with the state after
-- it.
pub data Place : Type 0 where
  AtStart : Place
  InSchema : List (List ℕ) → Place
  InBase : SchemaValue → List Fact → Place
  Between : Work → Place
  Within : Work → Batch → List (List ℕ) → Place

-- where a line leads, and what it commits
pub record Moved : Type 0 where
  pub place : Place
  pub batches : List Batch

-- a line leads to a place, and commits nothing
abbrev pub moved_to : Place → Result Moved FeedStop
moved_to place = Ok (record { place = place; batches = [] })

-- A line in front of which such a line may stand: first it is judged whether it is too long, then its text, then its word.
abbrev pub where_it_may : ℕ → List ℕ → Bool → Result Moved FeedStop → Result Moved FeedStop
where_it_may n line may next =
    if is_long line then Err (feed_stop.Bad n code.Long)
    else (if not (is_clean line) then Err (feed_stop.Bad n code.Text)
    else (if not may then Err (feed_stop.Bad n code.Order) else next))

-- the word of a line
abbrev pub has_word : List ℕ → List ℕ → Bool
has_word word line = bytes_eq (field_at (fields_of line) 0) word

-- the first line: the word `feed` and the version, which is 1
abbrev pub version_judged : ℕ → List (List ℕ) → Result Moved FeedStop
version_judged n fields =
    if not (length fields == 2) then Err (feed_stop.Bad n code.Fields)
    else (if not (bytes_eq (field_at fields 1) (codes "1")) then Err (feed_stop.Bad n code.Number) else moved_to (InSchema []))

abbrev pub at_start : ℕ → List ℕ → Result Moved FeedStop
at_start n line = where_it_may n line (has_word (codes "feed") line) (version_judged n (fields_of line))

-- A line of the schema. At `end` all of them are judged; the number of a line in the schema is one less than that in
-- the feed.
abbrev pub schema_judged : Result ReadSchema BadLine → Result Moved FeedStop
schema_judged (Ok read) = moved_to (InBase read.schema [])
schema_judged (Err bad) = Err (feed_stop.Bad (bad.line + 1) bad.reason)

abbrev pub in_schema : List (List ℕ) → List ℕ → Result Moved FeedStop
in_schema before line =
    if is_end line then schema_judged (schema_of (feed_bytes (before ++ line ∷ []))) else moved_to (InSchema (before ++ line ∷ []))

-- the id of the last of some facts, 0 where there is none
abbrev pub last_id : List Fact → ℕ
last_id [] = 0
last_id (fact ∷ []) = fact.id
last_id (fact ∷ next ∷ facts) = last_id (next ∷ facts)

-- why a fact of the base is refused after others: its id is not above theirs, its region has too many cells, or they
-- are too many
abbrev pub base_refusal : List Dimension → List Fact → Fact → Option Code
base_refusal dims facts fact =
    first_refusal
    (first_that_holds ((nat_le fact.id (last_id facts), code.Exists) ∷ [])
    ∷ region_refusal dims fact.region
    ∷ first_that_holds ((nat_le MAX_FACTS (length facts), code.Facts) ∷ []) ∷ [])

abbrev pub fact_judged : ℕ → SchemaValue → List Fact → Fact → Result Moved FeedStop
fact_judged n schema facts fact = option_map_or (λ refusal. Err (feed_stop.Bad n refusal)) (base_refusal schema.dims facts fact) (moved_to (InBase schema (facts ++ fact ∷ [])))

-- a store is begun by one batch: the one text of the schema, all facts, and all their rows
abbrev pub base_batch : SchemaValue → List Fact → Batch
base_batch schema facts = record {
  schema = Some (schema_text schema);
  gone = [];
  facts = map kept_fact facts;
  rows = map kept_rows (extended (policy_of schema) schema.dims facts);
}

-- what the follower has of a base
abbrev pub work_of : SchemaValue → List Fact → Work
work_of schema facts = record { schema = schema; state = record { dims = schema.dims; facts = facts }; applied = 0 }

-- two facts are the same
abbrev pub are_same : Fact → Fact → Bool
are_same a b = a.id == b.id && pointwise (λ m n. m == n) a.region b.region && pointwise int_eq a.cols b.cols

-- the first place at which two lists of facts differ, if there is one: there the facts are not the same, or one of the lists has ended
abbrev pub first_difference : List Fact → List Fact → Option ℕ
first_difference [] [] = None
first_difference [] (other ∷ others) = Some 0
first_difference (fact ∷ facts) [] = Some 0
first_difference (fact ∷ facts) (other ∷ others) = if are_same fact other then option_map (λ place. place + 1) (first_difference facts others) else Some 0

-- `based`: over a store in which there is nothing the base is committed; over another it must be what that holds
abbrev pub based_over : Option Base → SchemaValue → List Fact → Result Moved FeedStop
based_over None schema facts = Ok (record { place = Between (work_of schema facts); batches = base_batch schema facts ∷ [] })
based_over (Some base) schema facts =
    if not (bytes_eq base.text (schema_text schema)) then Err (feed_stop.Base None)
    else option_map_or (λ place. Err (feed_stop.Base (Some place))) (first_difference base.facts facts) (moved_to (Between (work_of schema facts)))

-- before that it is judged whether the facts have too many rows
abbrev pub based_judged : Option Base → ℕ → SchemaValue → List Fact → Result Moved FeedStop
based_judged base n schema facts =
    if has_many_rows (extended (policy_of schema) schema.dims facts) then Err (feed_stop.Bad n code.Rows) else based_over base schema facts

-- a line of the base, as it is read
abbrev pub base_line_judged : Option Base → ℕ → SchemaValue → List Fact → Result FeedLine Code → Result Moved FeedStop
base_line_judged base n schema facts (Err refusal) = Err (feed_stop.Bad n refusal)
base_line_judged base n schema facts (Ok (feed.Fact fact)) = fact_judged n schema facts fact
base_line_judged base n schema facts (Ok feed.Based) = based_judged base n schema facts
base_line_judged base n schema facts (Ok (feed.Batch number said)) = Err (feed_stop.Bad n code.Order)
base_line_judged base n schema facts (Ok feed.Other) = Err (feed_stop.Bad n code.Order)

abbrev pub in_base : Option Base → ℕ → SchemaValue → List Fact → List ℕ → Result Moved FeedStop
in_base base n schema facts line =
    where_it_may n line (has_word (codes "fact") line || has_word (codes "based") line) (base_line_judged base n schema facts (feed_line_of schema line))

-- the code of a reply that refuses its line
abbrev pub refusal_in : Option Reply → Code
refusal_in (Some (Refused refusal)) = refusal
refusal_in reply = code.Command

-- The edit or the growth of a batch, with what it would commit: where that is nothing it is refused. Its lines must then be those of the
-- follower's own batch.
abbrev pub said_judged : ℕ → Work → Step → List Batch → Result Moved FeedStop
said_judged n work step [] = Err (feed_stop.Bad n (refusal_in step.reply))
said_judged n work step (batch ∷ batches) = moved_to (Within (record work { state = step.state }) batch (behind_lines step.state.dims batch))

abbrev pub batch_judged : ℕ → Work → Result Line Code → Result Moved FeedStop
batch_judged n work (Err refusal) = Err (feed_stop.Bad n refusal)
batch_judged n work (Ok said) =
    let weigh = weigh_of work.schema.policy in
    said_judged n work (step_of weigh work.schema work.state said) (batches_of weigh work.schema work.state said)

-- the number of a batch is judged before what it says
abbrev pub batch_line_judged : ℕ → Work → Result FeedLine Code → Result Moved FeedStop
batch_line_judged n work (Err refusal) = Err (feed_stop.Bad n refusal)
batch_line_judged n work (Ok (feed.Batch number said)) = if number == work.applied + 1 then batch_judged n work said else Err (feed_stop.Order (work.applied + 1) number)
batch_line_judged n work (Ok (feed.Fact fact)) = Err (feed_stop.Bad n code.Order)
batch_line_judged n work (Ok feed.Based) = Err (feed_stop.Bad n code.Order)
batch_line_judged n work (Ok feed.Other) = Err (feed_stop.Bad n code.Order)

abbrev pub between_batches : ℕ → Work → List ℕ → Result Moved FeedStop
between_batches n work line = where_it_may n line (has_word (codes "batch") line) (batch_line_judged n work (feed_line_of (schema_at work.schema work.state) line))

-- a line that is the next of a batch: once it was the last, the batch is committed
abbrev pub line_done : Work → Batch → List (List ℕ) → Moved
line_done work batch [] = record { place = Between (record work { applied = work.applied + 1 }); batches = batch ∷ [] }
line_done work batch (line ∷ left) = record { place = Within work batch (line ∷ left); batches = [] }

-- one that is not it differs there, unless it is too long or no text
abbrev pub differs : ℕ → Work → List ℕ → FeedStop
differs n work line =
    if is_long line then feed_stop.Bad n code.Long
    else (if not (is_clean line) then feed_stop.Bad n code.Text else feed_stop.Differs (work.applied + 1) n)

abbrev pub within_batch : ℕ → Work → Batch → List (List ℕ) → List ℕ → Result Moved FeedStop
within_batch n work batch [] line = Err (differs n work line)
within_batch n work batch (expected ∷ left) line = if bytes_eq expected line then Ok (line_done work batch left) else Err (differs n work line)

-- what the n-th line of a feed does
unfoldable pub step_at : Option Base → ℕ → Place → List ℕ → Result Moved FeedStop
step_at base n AtStart line = at_start n line
step_at base n (InSchema before) line = in_schema before line
step_at base n (InBase schema facts) line = in_base base n schema facts line
step_at base n (Between work) line = between_batches n work line
step_at base n (Within work batch left) line = within_batch n work batch left line

-- What lines do: where they lead, or where the last that did was; what is committed; why they stop, if they do; and how many are looked at.
pub record Followed : Type 0 where
  pub place : Place
  pub batches : List Batch
  pub stop : Option FeedStop
  pub lines : ℕ

abbrev pub after_step : Place → (Place → Followed) → Result Moved FeedStop → Followed
after_step place later (Err stop) = record { place = place; batches = []; stop = Some stop; lines = 1 }
after_step place later (Ok moved) =
    let behind = later moved.place in
    record { place = behind.place; batches = moved.batches ++ behind.batches; stop = behind.stop; lines = behind.lines + 1 }

-- the lines from the n-th on
abbrev pub follow_from : Option Base → ℕ → Place → List (List ℕ) → Followed
follow_from base n place [] = record { place = place; batches = []; stop = None; lines = 0 }
follow_from base n place (line ∷ lines) = after_step place (λ next. follow_from base (n + 1) next lines) (step_at base n place line)

-- all lines of a feed
abbrev pub followed : Option Base → List (List ℕ) → Followed
followed base lines = follow_from base 1 AtStart lines

-- why an input may not end at a place, after so many lines: it does after `based` and after a whole batch alone
abbrev pub schema_cut : ℕ → Result ReadSchema BadLine → FeedStop
schema_cut n (Ok read) = feed_stop.Bad (n + 1) code.Cut
schema_cut n (Err bad) = feed_stop.Bad (bad.line + 1) bad.reason

abbrev pub cut_at : ℕ → Place → Option FeedStop
cut_at n AtStart = Some (feed_stop.Bad (n + 1) code.Cut)
cut_at n (InSchema before) = Some (schema_cut n (schema_of (feed_bytes before)))
cut_at n (InBase schema facts) = Some (feed_stop.Bad (n + 1) code.Cut)
cut_at n (Between work) = None
cut_at n (Within work batch left) = Some (feed_stop.Bad (n + 1) code.Cut)

abbrev pub or_else : Option FeedStop → Option FeedStop → Option FeedStop
or_else (Some stop) other = Some stop
or_else None other = other

-- why a whole feed is refused, if it is
abbrev pub refusal_of : Option Base → List (List ℕ) → Option FeedStop
refusal_of base lines = or_else (followed base lines).stop (cut_at (length lines) (followed base lines).place)

-- how many batches are applied at a place, and how many parts of a feed are done: the base, and each of these
abbrev pub applied_at : Place → ℕ
applied_at AtStart = 0
applied_at (InSchema before) = 0
applied_at (InBase schema facts) = 0
applied_at (Between work) = work.applied
applied_at (Within work batch left) = work.applied

abbrev pub parts_at : Place → ℕ
parts_at AtStart = 0
parts_at (InSchema before) = 0
parts_at (InBase schema facts) = 0
parts_at (Between work) = work.applied + 1
parts_at (Within work batch left) = work.applied + 1

-- what is written of the parts: nothing of the base, and a line of each batch
abbrev pub applied_text : ℕ → List ℕ
applied_text number = line_text (codes "applied") (decimal number ∷ [])

abbrev pub applied_texts : ℕ → List (List ℕ)
applied_texts count = [] ∷ map applied_text (range_with_len 1 count)

-- what the first so many parts commit: the base where the store held nothing, and the batches
abbrev pub kept_parts : Option Base → List (List ℕ) → ℕ → List Batch
kept_parts None lines parts = take parts (followed None lines).batches
kept_parts (Some base) lines parts = take (parts - 1) (followed (Some base) lines).batches
