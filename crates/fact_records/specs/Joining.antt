-- Blocks that have few facts, and become one.
use Rattle.std.specs.Prelude.{◌≡◌, ℕ, ◌+◌, ◌≤◌, Bool, List, ◌++◌, ◌&&◌, length, nat_le, nat_lt, remove, slice_set}
use Rattle.cube_model.specs.declared.edit.Fact.{Fact}
use Rattle.fact_records.specs.declared.blocks.TheConstants.{HALF}
use Rattle.fact_records.specs.BlockList.{AllFilled, BlockList, all_facts, block_at, spare_of}

-- a block has one after it, and both together have no more facts than a half of a block
abbrev pub are_sparse : List (List Fact) → ℕ → Bool
are_sparse used block = nat_lt (block + 1) (length used) && nat_le (length (block_at used block) + length (block_at used (block + 1))) HALF

-- the facts of a block and of the one after it in one
abbrev pub joined_blocks : List (List Fact) → ℕ → List (List Fact)
joined_blocks used block = remove (slice_set used block (block_at used block ++ block_at used (block + 1))) (block + 1)

-- the facts stay, and so does the room
pub record IsJoined (old new : BlockList) : Type 0 where
  pub facts : all_facts new.used ≡ all_facts old.used
  pub filled : AllFilled new.used
  pub spare : spare_of old ≤ spare_of new
