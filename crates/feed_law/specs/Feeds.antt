-- The feed of a store's edits, and what a follower makes of it.
use Rattle.std.specs.Prelude.{◌≡◌, ℕ, ◌+◌, List, None, Ok, Option, take}
use Rattle.std.specs.List.{concat}
use Rattle.std.specs.Option.{option_map_or}
use Rattle.std.specs.Result.{result_ok}
use Rattle.fact_keeper.specs.declared.content.Batch.{Batch}
use Rattle.fact_keeper.specs.declared.content.Stored.{Stored}
use Rattle.schema_text.specs.Schema.{SchemaValue, weigh_of}
use Rattle.schema_text.specs.SchemaText.{schema_text}
use Rattle.feed_run.specs.Following.{Base, applied_at, followed, refusal_of}
use Rattle.feed_run.specs.Leading.{leading_texts}
use Rattle.cube_cli.specs.SchemaAlone.{schema_alone}
use Rattle.cube_cli.specs.Store.{IsSoundOver, state_over}

-- a sound content tells a schema and facts
pub record Tells (schema : SchemaValue) (content : Stored) : Type 0 where
  pub read : schema_alone content.schema ≡ Ok schema
  pub sound : IsSoundOver schema content

-- the feed of so many of the lines that a leader does over a content of a schema
abbrev pub feed_of : SchemaValue → Stored → List (List ℕ) → ℕ → List ℕ
feed_of schema content lines n = concat (take (n + 1) (leading_texts (weigh_of schema.policy) schema (state_over schema content) lines))

-- a content with the one text of its schema in the place of the text that it has
abbrev pub canonical : Stored → Stored
canonical content = option_map_or (λ schema. record content { schema = schema_text schema }) (result_ok (schema_alone content.schema)) content

-- Lines are followed to their end: no line is refused, nor that they end there; and these batches are committed, and so many applied.
pub record FollowsAll (base : Option Base) (lines : List (List ℕ)) (committed : List Batch) (count : ℕ) : Type 0 where
  pub accepted : refusal_of base lines ≡ None
  pub batches : (followed base lines).batches ≡ committed
  pub applied : applied_at (followed base lines).place ≡ count
