-- Two blocks next to each other that get as many facts each, but for one.
use Rattle.std.specs.Prelude.{◌≡◌, ℕ, ◌+◌, ◌/◌, ◌<◌, ◌≤◌, ◌⊎◌, Bool, List, ◌++◌, length, nat_le, take, drop, slice_set}
use Rattle.cube_model.specs.declared.edit.Fact.{Fact}
use Rattle.fact_records.specs.declared.block.TheConstants.{BLOCK}
use Rattle.fact_records.specs.declared.blocks.TheConstants.{ROOMY}
use Rattle.fact_records.specs.BlockList.{block_at}

-- the first half of what both have, and the rest
abbrev pub first_half : List Fact → List Fact → List Fact
first_half front back = take ((length front + length back) / 2) (front ++ back)

abbrev pub second_half : List Fact → List Fact → List Fact
second_half front back = drop ((length front + length back) / 2) (front ++ back)

-- the blocks once a block was leveled with the one after it
abbrev pub leveled : List (List Fact) → ℕ → List (List Fact)
leveled used block =
    slice_set (slice_set used block (first_half (block_at used block) (block_at used (block + 1)))) (block + 1) (second_half (block_at used block) (block_at used (block + 1)))

-- a block has room for some facts
abbrev pub is_roomy : List (List Fact) → ℕ → Bool
is_roomy used block = nat_le (length (block_at used block)) ROOMY

-- a block and the one after it: one of them is this one, and together they have facts for more than one block, and not
-- for two
pub record IsPairWithRoom (used : List (List Fact)) (block first : ℕ) : Type 0 where
  pub there : first + 1 < length used
  pub either : (block ≡ first) ⊎ (block ≡ first + 1)
  pub many : BLOCK ≤ length (block_at used first) + length (block_at used (first + 1))
  pub few : length (block_at used first) + length (block_at used (first + 1)) ≤ BLOCK + ROOMY

-- a place of two blocks next to each other, of which the first has so many facts: in the first as far as that has it
pub record IsPlaceInPair (first len at block within : ℕ) : Type 0 where
  pub front : at ≤ len → (block ≡ first) × (within ≡ at)
  pub back : len < at → (block ≡ first + 1) × (within + len ≡ at)
