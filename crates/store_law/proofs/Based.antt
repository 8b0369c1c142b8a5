-- What a store holds that was begun by the base of a feed.
use Rattle.std.proofs.Common.{◌≡◌, ℕ, ◌<◌, ◌≤◌, List, [], ◌∷◌, map, refl, ◌∙◌, arith, Option, Some, None}
use Rattle.std.specs.Option.{option_or}
use Rattle.cube_model.specs.declared.edit.Fact.{Fact}
use Rattle.cube_model.specs.Allocation.{extended, row_count}
use Rattle.cube_model.specs.Limits.{MAX_ROWS}
use Rattle.fact_keeper.specs.Batch.{apply_batch, empty_content, fact_id, rows_id, updated}
use Rattle.fact_keeper.specs.Order.{AscendsBy}
use Rattle.fact_keeper.proofs.Found.{entry_of}
use Rattle.fact_records.specs.Valid.{AreValid}
use Rattle.schema_text.specs.Schema.{SchemaValue, policy_of, shape_of}
use Rattle.edit_plan.specs.Plan.{kept_fact}
use Rattle.cube_cli.proofs.KeptFacts.{pairs-map}
use Rattle.feed_run.specs.Following.{base_batch}
use Rattle.store_law.specs.Holds.{HoldsState}
use Rattle.store_law.proofs.Rowed.{rows-ascend}
use Rattle.store_law.proofs.Told.{holds-these}
use Rattle.store_law.proofs.Updated.{updated-is}

-- entries that ascend, put where there are none
all-put : {X : Type 0} (id_of : X → ℕ) (new : List X) → AscendsBy id_of new → updated id_of [] new [] ≡ new
all-put id_of new up = updated-is id_of [] new [] new up (λ i j d before within. absurd (omega (arith, within))) up (λ n. alone (entry_of id_of n new))
  where
    alone : {X : Type 0} (found : Option X) → option_or found None ≡ found
    alone None = refl
    alone (Some x) = refl

-- a store that is begun so is sound, and tells these facts
pub based-holds : (schema : SchemaValue) (facts : List Fact) → AreValid (shape_of schema) schema.dims facts → row_count (extended (policy_of schema) schema.dims facts) ≤ MAX_ROWS
    → HoldsState (policy_of schema) (shape_of schema) schema.dims facts (apply_batch (base_batch schema facts) empty_content)
based-holds schema facts valid few =
    holds-these (policy_of schema) (shape_of schema) schema.dims facts (apply_batch (base_batch schema facts) empty_content) valid few
    (all-put fact_id (map kept_fact facts) (pairs-map kept_fact fact_id facts valid.ascending))
    (all-put rows_id (base_batch schema facts).rows (rows-ascend (policy_of schema) schema.dims facts valid.ascending))
