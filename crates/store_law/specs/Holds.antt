-- A stored content that is the one of a state.
use Rattle.std.specs.Prelude.{◌≡◌, ◌++◌, ℕ, List, Option, IfSome}
use Rattle.std.specs.Option.{option_map}
use Rattle.cube_model.specs.declared.edit.Fact.{Fact}
use Rattle.cube_model.specs.Allocation.{Policy}
use Rattle.cube_model.specs.Tree.{Dimension}
use Rattle.fact_keeper.specs.declared.content.Stored.{Stored}
use Rattle.fact_keeper.specs.Batch.{empty_content}
use Rattle.fact_records.specs.Shape.{ShapeValue}
use Rattle.store_audit.specs.Sound.{IsSound, facts_told}
use Rattle.script_run.specs.Kept.{apply_all}
use Rattle.script_run.specs.Run.{State}
use Rattle.script_run.specs.Seen.{KeeperSeen}
use Rattle.cube_cli.specs.Seen.{Holds}
use Rattle.cube_cli.specs.Store.{IsEmptyOrSound, IsSoundContent, batches_over, outcome_over, replies_over}

-- A content holds facts: it tells these and no others, none of them is refused, and the kept rows are those that they make.
pub record HoldsState (policy : Policy) (shape : ShapeValue) (dims : List Dimension) (facts : List Fact) (content : Stored) : Type 0 where
  pub sound : IsSound policy shape dims content
  pub told : facts_told content ≡ facts

-- a content with the batches that lines commit over it, one after the other
abbrev pub content_after : Stored → List (List ℕ) → Stored
content_after content lines = apply_all (batches_over content lines) content

-- the state that lines reach over a content, where its schema is read
abbrev pub state_reached : Stored → List (List ℕ) → Option State
state_reached content lines = option_map (λ outcome. outcome.state) (outcome_over content lines)

-- Over what lines leave of a content others go on as if they stood after them: the replies stand one after the other,
-- and the same is left.
pub record GoesOnOver (content : Stored) (lines more : List (List ℕ)) : Type 0 where
  pub replies : replies_over content (lines ++ more) ≡ replies_over content lines ++ replies_over (content_after content lines) more
  pub left : content_after content (lines ++ more) ≡ content_after (content_after content lines) more

-- A keeper that told a sound content tells one afterwards.
abbrev pub StaysSound : KeeperSeen → Type 0
StaysSound keeper = Holds keeper (λ content. IsSoundContent content → IfSome keeper.told_after.content IsSoundContent)

-- A keeper that told an empty content tells one afterwards in which there is nothing, or that is sound.
abbrev pub BeginsSound : KeeperSeen → Type 0
BeginsSound keeper = Holds keeper (λ content. content ≡ empty_content → IfSome keeper.told_after.content IsEmptyOrSound)

-- a content that is sound, with the schema and the facts of another
pub record IsRebuilt (content later : Stored) : Type 0 where
  pub sound : IsSoundContent later
  pub schema : later.schema ≡ content.schema
  pub facts : later.facts ≡ content.facts
