-- What contracts see of a keeper in memory.
use Rattle.std.specs.Prelude.{ℕ, Bool, List, Option}
use Rattle.fact_keeper.specs.declared.content.Batch.{Batch}
use Rattle.fact_keeper.specs.declared.content.Stored.{Stored}

-- the content, the batches so far, the name that the last answered load was given, how many loads were asked for, whether one was
-- answered, how many calls and faults there were, the calls that fail
pub record Keeping : Type 0 where
  pub content : Stored
  pub journal : List Batch
  pub name : Option (List ℕ)
  pub loads : ℕ
  pub is_open : Bool
  pub calls : ℕ
  pub faults : ℕ
  pub fails : List ℕ
