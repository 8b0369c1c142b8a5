-- How a batch is applied to a content.
use Rattle.std.specs.Prelude.{ℕ, List, [], filter, fold, insert, not, nat_lt, ◌==◌, unwrap_or}
use Rattle.std.specs.List.{list_any, position_or_len}
use Rattle.fact_keeper.specs.declared.content.Batch.{Batch}
use Rattle.fact_keeper.specs.declared.content.KeptFact.{KeptFact}
use Rattle.fact_keeper.specs.declared.content.KeptRows.{KeptRows}
use Rattle.fact_keeper.specs.declared.content.Stored.{Stored}

-- the content of a store in which nothing was kept
abbrev pub empty_content : Stored
empty_content = record { schema = []; facts = []; rows = [] }

-- the ids of facts and of rows, by which entries are distinguished
abbrev pub fact_id : KeptFact → ℕ
fact_id fact = fact.id

abbrev pub rows_id : KeptRows → ℕ
rows_id rows = rows.id

module _ {X : Type 0} (id_of : X → ℕ) where
  -- the entries without those of these ids
  abbrev pub without : List ℕ → List X → List X
  without gone entries = filter (λ e. not (list_any (λ n. n == id_of e) gone)) entries

  -- the entries with a new one in the place of all that have its id: before the first of a greater id, or last where there is none
  abbrev pub put : List X → X → List X
  put entries new =
      let others = filter (λ e. not (id_of e == id_of new)) entries in
      insert others (position_or_len (λ e. nat_lt (id_of new) (id_of e)) others) new

  -- the entries after a batch: those of deleted ids are dropped, and then each new one is put in turn
  abbrev pub updated : List ℕ → List X → List X → List X
  updated gone new entries = fold put (without gone entries) new

-- the content after a batch
abbrev pub apply_batch : Batch → Stored → Stored
apply_batch batch content = record {
  schema = unwrap_or batch.schema content.schema;
  facts = updated fact_id batch.gone batch.facts content.facts;
  rows = updated rows_id batch.gone batch.rows content.rows;
}
