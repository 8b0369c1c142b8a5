-- What blocks keep.
use Rattle.std.specs.Prelude.{◌≡◌, ℕ, ◌+◌, ◌<◌, ◌≤◌, ◌^◌, List, length}
use Rattle.cube_model.specs.declared.edit.Fact.{Fact}
use Rattle.fact_records.specs.BlockList.{IsStocked, all_facts}
use Rattle.fact_records.specs.Starts.{starts_of}

-- there are places for all blocks, those in stock are empty, and the number of facts before each block in use is known
pub record AreStocked (used : List (List Fact)) (in_use places : ℕ) (starts : List ℕ) (start_places : ℕ) (stock : List (List Fact)) (stock_places : ℕ) : Type 0 where
  pub stocked : IsStocked in_use places stock stock_places
  pub counted : starts ≡ starts_of used
  pub few : length (all_facts used) < 2 ^ 64
  pub fits_starts : in_use + length stock ≤ start_places
