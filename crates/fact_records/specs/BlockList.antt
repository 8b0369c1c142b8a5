-- Blocks of facts: what they hold together, and for how many more facts the blocks in stock make room.
use Rattle.std.specs.Prelude.{◌≡◌, ℕ, ◌+◌, ◌-◌, ◌*◌, ◌<◌, ◌≤◌, max, List, [], ◌∷◌, length, take, slice_index_or, All}
use Rattle.std.specs.List.{flat_map}
use Rattle.cube_model.specs.declared.edit.Fact.{Fact}
use Rattle.fact_records.specs.declared.block.TheConstants.{BLOCK}
use Rattle.fact_records.specs.declared.blocks.TheConstants.{HALF}

-- the blocks in use, and how many there are in stock
pub record BlockList : Type 0 where
  pub used : List (List Fact)
  pub stock : ℕ

-- the facts of blocks, one block after another
abbrev pub all_facts : List (List Fact) → List Fact
all_facts used = flat_map (λ block. block) used

-- the block at a place
abbrev pub block_at : List (List Fact) → ℕ → List Fact
block_at used block = slice_index_or used block []

-- among all facts, the place of what is at a place of a block
abbrev pub place_in_all : List (List Fact) → ℕ → ℕ → ℕ
place_in_all used block at = length (all_facts (take block used)) + at

-- a fact is at this place of this block
pub record IsAtPlace (used : List (List Fact)) (i k : ℕ) : Type 0 where
  pub block : i < length used
  pub at : k < length (block_at used i)

-- a fact can go to this place of this block; where there is no block yet, to the front
pub record IsPlace (used : List (List Fact)) (i k : ℕ) : Type 0 where
  pub block : i < max 1 (length used)
  pub at : k ≤ length (block_at used i)

-- a block that has facts, and no more than it has room for
pub record IsFilled (block : List Fact) : Type 0 where
  pub some : 1 ≤ length block
  pub most : length block ≤ BLOCK

abbrev pub AllFilled : List (List Fact) → Type 0
AllFilled used = All IsFilled used

-- What stands against the stock. A put adds at most 1 to it, and where a full block makes room, it falls by HALF while the stock falls by 1:
-- so HALF times the stock, less the load, falls by at most 1 at each put. A block before others counts by what it has above HALF, since it
-- is split in halves, the last block by all that it has, since after it a new one begins; where there is none, the
-- first takes HALF.
abbrev pub load : List (List Fact) → ℕ
load [] = HALF
load (block ∷ []) = length block
load (block ∷ next ∷ used) = (length block - HALF) + load (next ∷ used)

-- how many facts can be put before a block is needed that is not in stock: as many as there are in stock, or more where
-- the load is small
abbrev pub spare_of : BlockList → ℕ
spare_of blocks = max blocks.stock (HALF * blocks.stock - load blocks.used)

-- both lists have places for all blocks, and those in stock are empty
pub record IsStocked (in_use places : ℕ) (stock : List (List Fact)) (stock_places : ℕ) : Type 0 where
  pub fits : in_use + length stock ≤ places
  pub fits_stock : in_use + length stock ≤ stock_places
  pub empty : All (λ block. block ≡ []) stock
