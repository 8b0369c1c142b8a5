-- What a line does, by where it stands.
use Rattle.std.proofs.Common.{◌≡◌, ℕ, List, Option, refl}
use Rattle.cube_model.specs.declared.edit.Fact.{Fact}
use Rattle.fact_keeper.specs.declared.content.Batch.{Batch}
use Rattle.schema_text.specs.Schema.{SchemaValue}
use Rattle.feed_run.specs.Following.{AtStart, Base, Between, InBase, InSchema, Within, Work, at_start, between_batches, in_base, in_schema, step_at, within_batch}

pub step-start : (base : Option Base) (n : ℕ) (line : List ℕ) → step_at base n AtStart line ≡ at_start n line
unfolding step_at
step-start base n line = refl

pub step-schema : (base : Option Base) (n : ℕ) (before : List (List ℕ)) (line : List ℕ) → step_at base n (InSchema before) line ≡ in_schema before line
unfolding step_at
step-schema base n before line = refl

pub step-base : (base : Option Base) (n : ℕ) (schema : SchemaValue) (facts : List Fact) (line : List ℕ) → step_at base n (InBase schema facts) line ≡ in_base base n schema facts line
unfolding step_at
step-base base n schema facts line = refl

pub step-between : (base : Option Base) (n : ℕ) (work : Work) (line : List ℕ) → step_at base n (Between work) line ≡ between_batches n work line
unfolding step_at
step-between base n work line = refl

pub step-within : (base : Option Base) (n : ℕ) (work : Work) (batch : Batch) (left : List (List ℕ)) (line : List ℕ) → step_at base n (Within work batch left) line ≡ within_batch n work batch left line
unfolding step_at
step-within base n work batch left line = refl
