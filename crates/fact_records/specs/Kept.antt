-- What a list of facts keeps.
use Rattle.std.specs.Prelude.{◌≡◌, ℕ, ◌+◌, ◌^◌, ◌<◌, ◌≤◌, length}
use Rattle.fact_records.specs.BlockList.{AllFilled, BlockList, all_facts, spare_of}
use Rattle.fact_records.specs.FactList.{IsAscending}

-- the facts ascend over the blocks, their number is known, and the room that is promised is there
pub record IsKept (blocks : BlockList) (count spare : ℕ) : Type 0 where
  pub ascending : IsAscending (all_facts blocks.used)
  pub filled : AllFilled blocks.used
  pub counted : count ≡ length (all_facts blocks.used)
  pub fits : count + spare < 2 ^ 64
  pub room : spare ≤ spare_of blocks
