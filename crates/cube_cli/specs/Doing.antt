-- What each command does: the ends that it may give, what it takes and keeps, and what it makes of an input and a content.
use Rattle.std.specs.Prelude.{◌≡◌, ℕ, ◌+◌, ◌-◌, ◌⊎◌, Bool, true, false, List, [], ◌∷◌, codes, map, nat_le, take, ⊤, Option, Some, None, Result, Ok, Err}
use Rattle.std.specs.Option.{option_map, option_map_or}
use Rattle.std.specs.Result.{result_ok}
use Rattle.cube_model.specs.declared.edit.Fact.{Fact}
use Rattle.cube_model.specs.Allocation.{Policy}
use Rattle.drill_run.specs.Doing.{drill_of}
use Rattle.drill_run.specs.Summary.{summary_of}
use Rattle.fact_keeper.specs.Batch.{empty_content}
use Rattle.fact_keeper.specs.declared.content.Batch.{Batch}
use Rattle.fact_keeper.specs.declared.content.Stored.{Stored}
use Rattle.feed_run.specs.Following.{Base as FeedBase, Followed, applied_at, applied_texts, followed, kept_parts, parts_at, refusal_of}
use Rattle.feed_run.specs.Leading.{leading_texts}
use Rattle.text_lines.specs.Pieces.{front, lf_count, line_end}
use Rattle.schema_text.specs.Schema.{SchemaValue, policy_of, weigh_of}
use Rattle.schema_text.specs.SchemaText.{BadLine, schema_of, schema_text}
use Rattle.store_audit.specs.Sound.{facts_told}
use Rattle.text_lines.specs.Text.{line_text, lines_of}
use Rattle.cube_cli.specs.declared.command.Command.{Command}
use Rattle.cube_cli.specs.declared.command.Command.TheVariants.{Drill, Store, Try}
use Rattle.cube_cli.specs.declared.command.StoreCommand.TheVariants.{Ask, Follow, Init, Input, Rebuild, Tell}
use Rattle.cube_cli.specs.declared.end.End.{End}
use Rattle.cube_cli.specs.declared.end.End.TheVariants as ends
use Rattle.cube_cli.specs.declared.store.InputTask.TheVariants.{Run, Import, Lead}
use Rattle.cube_cli.specs.declared.telling.Telling.{Telling}
use Rattle.cube_cli.specs.Files.{import_batch, imported_line, mending_batches, rebuilt_line, refused_file, refused_over, row_count_with_file, text_told}
use Rattle.cube_cli.specs.Kinds.{EndKind, Finished, Usage, Schema, NoCube, HasCube, BadStore, BadFacts, ReadFault, WriteFault, KeepFault, Memory, TooLong, BadRecord, ImportRows, BadFeed, Order, Base, Differs}
use Rattle.cube_cli.specs.RunEnd.{end_of_feed}
use Rattle.cube_cli.specs.SchemaAlone.{schema_alone}
use Rattle.cube_cli.specs.SchemaLines.{has_end, schema_bytes}
use Rattle.cube_cli.specs.Store.{IsEmptyOrSound, IsMendableContent, IsSoundContent, batches_over, count_refused_over, replies_over, schema_batch, state_over}
use Rattle.cube_cli.specs.Trying.{count_refused, replies_of, script_line_end, script_lines_in}

-- What is made of an input whose lines are done as they come: the end that it has instead where its head is refused, how many bytes that
-- head has, and whether all of it is among some. It is done in parts: the text that is written of each, how many lines are refused, what
-- the first so many parts commit, and what all do. Of the lines of the input: how many end in what was taken, how many bytes it has up to
-- and with the LF of the n-th, and how many parts are done once so many lines are. At last the number that an end tells of so many parts.
pub record LineWork : Type 0 where
  pub refusal : Option End
  pub head : ℕ
  pub has_head : List ℕ → Bool
  pub texts : List (List ℕ)
  pub refused : ℕ
  pub kept : ℕ → List Batch
  pub all_kept : List Batch
  pub lines_in : List ℕ → ℕ
  pub line_end : ℕ → ℕ
  pub parts_at : ℕ → ℕ
  pub told_as : ℕ → ℕ

-- What is made of one that is done at once: the end that it has instead where it is refused, the text that is written, and the batches
-- that are committed before.
pub record OneWork : Type 0 where
  pub refusal : Option End
  pub text : List ℕ
  pub kept : List Batch

-- How an input is done: by its lines; at once, with so many lines refused and so many batches committed; or at once, with none refused and
-- the batches committed that the content needs, of which there is one at most.
pub data Works : Type 0 where
  ByLines : (List ℕ → Stored → LineWork) → Works
  AtOnce : ℕ → ℕ → (List ℕ → Stored → OneWork) → Works
  AsNeeded : (List ℕ → Stored → OneWork) → Works

-- whether a command takes the input, whether it calls the keeper, whether it may commit, whether what it does depends on the content that
-- the store held, and what it does
pub record Doing : Type 0 where
  pub reads : Bool
  pub stores : Bool
  pub keeps : Bool
  pub over : Bool
  pub works : Works

-- the end of a schema that is refused
abbrev pub refused_schema : {T : Type 0} → Result T BadLine → Option End
refused_schema (Ok _) = None
refused_schema (Err bad) = Some (ends.Schema bad.line bad.reason)

-- the lines after a schema, done on a cube that is not kept: a part is the reply to a line
abbrev pub try_work : List ℕ → Stored → LineWork
try_work input content = record {
  refusal = refused_schema (schema_of input);
  head = schema_bytes input;
  has_head = has_end;
  texts = replies_of input;
  refused = count_refused input;
  kept = λ n. [];
  all_kept = [];
  lines_in = script_lines_in input;
  line_end = script_line_end input;
  parts_at = λ n. n;
  told_as = λ n. n;
}

-- lines over a content, which have no head: a part is the reply to a line
abbrev pub lines_work : List (List ℕ) → (List ℕ → ℕ) → (ℕ → ℕ) → Stored → LineWork
lines_work lines lines_in end_of content = record {
  refusal = None;
  head = 0;
  has_head = λ taken. true;
  texts = replies_over content lines;
  refused = count_refused_over content lines;
  kept = λ n. batches_over content (take n lines);
  all_kept = batches_over content lines;
  lines_in = lines_in;
  line_end = end_of;
  parts_at = λ n. n;
  told_as = λ n. n;
}

-- those of a script
abbrev pub run_work : List ℕ → Stored → LineWork
run_work input content = lines_work (lines_of input) lf_count (line_end input) content

-- the one line that words ask, of which nothing stands in an input
abbrev pub ask_work : List ℕ → List ℕ → Stored → LineWork
ask_work line input content = lines_work (line ∷ []) (λ taken. 0) (λ n. 0) content

-- a script that leads: the first part is the base of the feed, and each other the text of a line's batch, which is empty where it has none
abbrev pub leading_over : Stored → List (List ℕ) → List (List ℕ)
leading_over content lines = option_map_or (λ schema. leading_texts (weigh_of schema.policy) schema (state_over schema content) lines) (result_ok (schema_alone content.schema)) []

abbrev pub lead_work : List ℕ → Stored → LineWork
lead_work input content = record (run_work input content) {
  texts = leading_over content (lines_of input);
  kept = λ parts. batches_over content (take (parts - 1) (lines_of input));
  parts_at = λ n. n + 1;
  told_as = λ parts. parts - 1;
}

-- what a follower begins with, where its store holds something
abbrev pub base_in : Stored → Option FeedBase
base_in content = option_map (λ schema. record { text = schema_text schema; facts = facts_told content }) (result_ok (schema_alone content.schema))

-- how many lines of a feed tell why it is not followed further: those up to the one that does, or one more than all where it ends too soon
abbrev pub lines_telling : Followed → ℕ
lines_telling whole = option_map_or (λ stop. whole.lines) whole.stop (whole.lines + 1)

-- the lines of a feed, of each as much as tells what it means
abbrev pub feed_lines : List ℕ → List (List ℕ)
feed_lines input = map front (lines_of input)

-- a feed that is followed: the first part is its base, of which nothing is written, and each other a batch
abbrev pub feed_work : Option FeedBase → List ℕ → LineWork
feed_work base input =
    let whole = followed base (feed_lines input) in
    record {
      refusal = option_map end_of_feed (refusal_of base (feed_lines input));
      head = line_end input (lines_telling whole);
      has_head = λ taken. nat_le (lines_telling whole) (lf_count taken);
      texts = applied_texts (applied_at whole.place);
      refused = 0;
      kept = kept_parts base (feed_lines input);
      all_kept = whole.batches;
      lines_in = lf_count;
      line_end = line_end input;
      parts_at = λ n. parts_at (followed base (take n (feed_lines input))).place;
      told_as = λ parts. parts - 1;
    }

abbrev pub follow_work : List ℕ → Stored → LineWork
follow_work input content = feed_work (base_in content) input

-- the reply of `init`
abbrev pub INIT_LINE : List ℕ
INIT_LINE = line_text (codes "ok") (codes "0" ∷ [])

-- a schema alone, of which the one text is kept
abbrev pub init_work : List ℕ → Stored → OneWork
init_work input content = record {
  refusal = refused_schema (schema_alone input);
  text = INIT_LINE;
  kept = option_map_or (λ schema. schema_batch schema ∷ []) (result_ok (schema_alone input)) [];
}

-- a file of facts, put into those of a content whose schema is read
abbrev pub file_work : Policy → SchemaValue → List Fact → List ℕ → OneWork
file_work policy schema facts file = record {
  refusal = refused_file (refused_over schema facts file) (row_count_with_file policy schema facts file);
  text = imported_line policy schema facts file;
  kept = import_batch policy schema facts file ∷ [];
}

-- a text alone
abbrev pub text_work : List ℕ → OneWork
text_work text = record { refusal = None; text = text; kept = [] }

-- what is made with the schema of a content, where that is read
abbrev pub with_schema : (SchemaValue → OneWork) → Stored → OneWork
with_schema work content = option_map_or work (result_ok (schema_alone content.schema)) (text_work [])

abbrev pub import_work : List ℕ → Stored → OneWork
import_work input content = with_schema (λ schema. file_work (policy_of schema) schema (facts_told content) input) content

-- what `check` and `export` tell of a content
abbrev pub telling_work : Telling → List ℕ → Stored → OneWork
telling_work telling input content = with_schema (λ schema. text_work (text_told telling (policy_of schema) schema (facts_told content))) content

-- the rows of a content put right, over a schema
abbrev pub mending_work : Policy → SchemaValue → Stored → OneWork
mending_work policy schema content = record {
  refusal = None;
  text = rebuilt_line policy schema.dims content;
  kept = mending_batches policy schema.dims content;
}

abbrev pub rebuild_work : List ℕ → Stored → OneWork
rebuild_work input content = with_schema (λ schema. mending_work (policy_of schema) schema content) content

-- what the command does, where its words ask this line: `ask` alone looks at it
abbrev pub doing_of : List ℕ → Option Command → Doing
doing_of line None = record { reads = false; stores = false; keeps = false; over = false; works = AtOnce 0 0 (λ input content. text_work []) }
doing_of line (Some Try) = record { reads = true; stores = false; keeps = false; over = false; works = ByLines try_work }
doing_of line (Some (Drill n)) = record { reads = false; stores = false; keeps = false; over = false; works = AtOnce (drill_of n).refused 0 (λ input content. text_work (summary_of n)) }
doing_of line (Some (Store Init)) = record { reads = true; stores = true; keeps = true; over = false; works = AtOnce 0 1 init_work }
doing_of line (Some (Store (Input Run))) = record { reads = true; stores = true; keeps = true; over = true; works = ByLines run_work }
doing_of line (Some (Store (Input Import))) = record { reads = true; stores = true; keeps = true; over = true; works = AtOnce 0 1 import_work }
doing_of line (Some (Store (Input Lead))) = record { reads = true; stores = true; keeps = true; over = true; works = ByLines lead_work }
doing_of line (Some (Store Follow)) = record { reads = true; stores = true; keeps = true; over = true; works = ByLines follow_work }
doing_of line (Some (Store Ask)) = record { reads = false; stores = true; keeps = true; over = true; works = ByLines (ask_work line) }
doing_of line (Some (Store Rebuild)) = record { reads = false; stores = true; keeps = true; over = true; works = AsNeeded rebuild_work }
doing_of line (Some (Store (Tell telling))) = record { reads = false; stores = true; keeps = false; over = true; works = AtOnce 0 0 (telling_work telling) }

-- the ends that it may give
abbrev pub ends_of : Option Command → List EndKind
ends_of None = Usage ∷ []
ends_of (Some Try) = Finished ∷ Schema ∷ ReadFault ∷ TooLong ∷ WriteFault ∷ Memory ∷ []
ends_of (Some (Drill n)) = Finished ∷ WriteFault ∷ Memory ∷ []
ends_of (Some (Store Init)) = HasCube ∷ Schema ∷ Finished ∷ ReadFault ∷ TooLong ∷ WriteFault ∷ KeepFault ∷ Memory ∷ []
ends_of (Some (Store (Input Run))) = NoCube ∷ BadStore ∷ Finished ∷ ReadFault ∷ TooLong ∷ WriteFault ∷ KeepFault ∷ Memory ∷ []
ends_of (Some (Store (Input Import))) = NoCube ∷ BadStore ∷ BadRecord ∷ ImportRows ∷ Finished ∷ ReadFault ∷ TooLong ∷ WriteFault ∷ KeepFault ∷ Memory ∷ []
ends_of (Some (Store (Input Lead))) = NoCube ∷ BadStore ∷ Finished ∷ ReadFault ∷ TooLong ∷ WriteFault ∷ KeepFault ∷ Memory ∷ []
ends_of (Some (Store Follow)) = BadStore ∷ BadFeed ∷ Order ∷ Base ∷ Differs ∷ Finished ∷ ReadFault ∷ TooLong ∷ WriteFault ∷ KeepFault ∷ Memory ∷ []
ends_of (Some (Store Ask)) = NoCube ∷ BadStore ∷ Finished ∷ WriteFault ∷ KeepFault ∷ Memory ∷ []
ends_of (Some (Store Rebuild)) = NoCube ∷ BadFacts ∷ Finished ∷ WriteFault ∷ KeepFault ∷ Memory ∷ []
ends_of (Some (Store (Tell telling))) = NoCube ∷ BadStore ∷ Finished ∷ WriteFault ∷ KeepFault ∷ Memory ∷ []

-- what the store must hold for it to go on
abbrev pub Fits : Option Command → Stored → Type 0
Fits None content = ⊤
Fits (Some Try) content = ⊤
Fits (Some (Drill n)) content = ⊤
Fits (Some (Store Init)) content = content ≡ empty_content
Fits (Some (Store (Input task))) content = IsSoundContent content
Fits (Some (Store Follow)) content = IsEmptyOrSound content
Fits (Some (Store Ask)) content = IsSoundContent content
Fits (Some (Store Rebuild)) content = IsMendableContent content
Fits (Some (Store (Tell telling))) content = IsSoundContent content
