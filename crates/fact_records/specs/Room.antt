-- Room made for a fact at a place.
use Rattle.std.specs.Prelude.{◌≡◌, ℕ, ◌+◌, ◌*◌, ◌<◌, ◌≤◌, suc, length, take, drop}
use Rattle.fact_records.specs.declared.block.TheConstants.{BLOCK}
use Rattle.fact_records.specs.declared.blocks.TheConstants.{HALF}
use Rattle.fact_records.specs.BlockList.{AllFilled, BlockList, all_facts, block_at, load, place_in_all}

-- the facts stay, the new place (i, k) is the old one (b, a) among them, its block is not full, and the stock lasts as long as before
pub record MakesRoom (old new : BlockList) (b a i k : ℕ) : Type 0 where
  pub facts : all_facts new.used ≡ all_facts old.used
  pub place : place_in_all new.used i k ≡ place_in_all old.used b a
  pub in_use : i < length new.used
  pub within : k ≤ length (block_at new.used i)
  pub room : length (block_at new.used i) < BLOCK
  pub before : AllFilled (take i new.used)
  pub behind : AllFilled (drop (suc i) new.used)
  pub lighter : load new.used + HALF * old.stock ≤ load old.used + HALF * new.stock
  pub stock : old.stock ≤ new.stock + 1
