-- What a stored content is, and what a script does over it.
use Rattle.std.specs.Prelude.{◌≡◌, ◌⊎◌, ℕ, List, [], ◌∷◌, Option, Some, IsOkAnd, Result, Ok, Err}
use Rattle.std.specs.Option.{option_map, option_map_or}
use Rattle.std.specs.Result.{result_ok}
use Rattle.cube_model.specs.Allocation.{Policy}
use Rattle.fact_keeper.specs.declared.content.Batch.{Batch}
use Rattle.fact_keeper.specs.declared.content.Stored.{Stored}
use Rattle.fact_keeper.specs.Batch.{empty_content}
use Rattle.schema_text.specs.Schema.{SchemaValue, policy_of, schema_policy, shape_of, weigh_of}
use Rattle.schema_text.specs.SchemaText.{BadLine, schema_text}
use Rattle.store_audit.specs.declared.finding.Finding.{Finding}
use Rattle.store_audit.specs.declared.finding.Finding.TheVariants as finding
use Rattle.store_audit.specs.Mending.{IsMendable}
use Rattle.store_audit.specs.Sound.{IsFinding, IsSound, facts_told}
use Rattle.script_run.specs.Kept.{batches}
use Rattle.script_run.specs.Run.{Outcome, State, run}
use Rattle.cube_cli.specs.SchemaAlone.{schema_alone}

-- the facts and rows of a content are sound over a schema
abbrev pub IsSoundOver : SchemaValue → Stored → Type 0
IsSoundOver schema content = IsSound (policy_of schema) (shape_of schema) schema.dims content

-- A content is sound: its schema's text holds a schema alone, over which its facts and rows are.
abbrev pub IsSoundContent : Stored → Type 0
IsSoundContent content = IsOkAnd (schema_alone content.schema) (λ schema. IsSoundOver schema content)

-- There is nothing in it, or it is sound.
abbrev pub IsEmptyOrSound : Stored → Type 0
IsEmptyOrSound content = (content ≡ empty_content) ⊎ IsSoundContent content

-- Its schema and its facts are sound, whatever rows are kept.
abbrev pub IsMendableOver : SchemaValue → Stored → Type 0
IsMendableOver schema content = IsMendable (policy_of schema) (shape_of schema) schema.dims content

abbrev pub IsMendableContent : Stored → Type 0
IsMendableContent content = IsOkAnd (schema_alone content.schema) (λ schema. IsMendableOver schema content)

-- what is found first in a content that is not sound: the first line at fault of its schema, else what is found over the schema
abbrev pub FindsBy : Result SchemaValue BadLine → Stored → Finding → Type 0
FindsBy (Err bad) content found = found ≡ finding.Schema bad.line bad.reason
FindsBy (Ok schema) content found = IsFinding (policy_of schema) (shape_of schema) schema.dims content found

abbrev pub Finds : Stored → Finding → Type 0
Finds content found = FindsBy (schema_alone content.schema) content found

-- the dimensions of a schema and the facts of a content
abbrev pub state_over : SchemaValue → Stored → State
state_over schema content = record { dims = schema.dims; facts = facts_told content }

-- what lines do over a content, where its schema is read
abbrev pub outcome_over : Stored → List (List ℕ) → Option Outcome
outcome_over content lines = option_map (λ schema. run (weigh_of schema.policy) schema (state_over schema content) lines) (result_ok (schema_alone content.schema))

-- their replies, how many are refused, and the batches that they commit; there is none without a schema
abbrev pub replies_over : Stored → List (List ℕ) → List (List ℕ)
replies_over content lines = option_map_or (λ outcome. outcome.replies) (outcome_over content lines) []

abbrev pub count_refused_over : Stored → List (List ℕ) → ℕ
count_refused_over content lines = option_map_or (λ outcome. outcome.refused) (outcome_over content lines) 0

abbrev pub batches_over : Stored → List (List ℕ) → List Batch
batches_over content lines = option_map_or (λ schema. batches (weigh_of schema.policy) schema (state_over schema content) lines) (result_ok (schema_alone content.schema)) []

-- the batch of a new store: the one text of a schema that is written
abbrev pub schema_batch : SchemaValue → Batch
schema_batch schema = record { schema = Some (schema_text schema); gone = []; facts = []; rows = [] }
