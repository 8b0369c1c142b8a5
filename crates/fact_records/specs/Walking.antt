-- Where a walk through blocks stands.
use Rattle.std.specs.Prelude.{ℕ, ◌<◌, max, List, length}
use Rattle.cube_model.specs.declared.edit.Fact.{Fact}
use Rattle.fact_records.specs.BlockList.{AllFilled, block_at}

-- the first of the blocks has a fact at this place; where there is no block, it is the front
pub record IsNextPlace (blocks : List (List Fact)) (at : ℕ) : Type 0 where
  pub filled : AllFilled blocks
  pub within : at < max 1 (length (block_at blocks 0))
