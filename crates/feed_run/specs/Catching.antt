-- What contracts see of a keeper that catches batches.
use Rattle.std.specs.Prelude.{ℕ, List}
use Rattle.fact_keeper.specs.declared.content.Batch.{Batch}

-- the batches that it caught and still has, the oldest first, and how many loads were asked for
pub record Catching : Type 0 where
  pub caught : List Batch
  pub loads : ℕ
