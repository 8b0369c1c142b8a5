-- Contents whose entries stand in the order of their ids, each id once.
use Rattle.std.specs.Prelude.{ℕ, ◌<◌, List, AllPairs}
use Rattle.fact_keeper.specs.declared.content.Stored.{Stored}
use Rattle.fact_keeper.specs.Batch.{fact_id, rows_id}

-- each entry has a smaller id than every later one
abbrev pub AscendsBy : {X : Type 0} → (X → ℕ) → List X → Type 0
AscendsBy id_of entries = AllPairs (λ a b. id_of a < id_of b) entries

-- the facts ascend, and so do the rows
pub record IsInOrder (content : Stored) : Type 0 where
  pub facts : AscendsBy fact_id content.facts
  pub rows : AscendsBy rows_id content.rows
