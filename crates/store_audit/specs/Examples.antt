-- Small contents, judged by hand.
use Rattle.std.specs.Prelude.{ℕ, List, [], ◌∷◌, map, None, pos}
use Rattle.fact_keeper.specs.declared.content.Batch.{Batch}
use Rattle.fact_keeper.specs.declared.content.KeptFact.{KeptFact}
use Rattle.fact_keeper.specs.declared.content.KeptRows.{KeptRows}
use Rattle.fact_keeper.specs.declared.content.Stored.{Stored}

-- a kept fact of one value
abbrev pub kept_at : ℕ → List ℕ → ℕ → KeptFact
kept_at id nodes value = record { id = id; nodes = nodes; cols = pos value ∷ [] }

-- facts of these ids on the first cell
abbrev pub facts_of_ids : List ℕ → List KeptFact
facts_of_ids ids = map (λ id. kept_at id (2 ∷ 1 ∷ []) 5) ids

-- two facts on the first cell
abbrev pub two_facts : List KeptFact
two_facts = facts_of_ids (1 ∷ 2 ∷ [])

-- rows of one cell: as a fact there has them, and over another denominator
abbrev pub whole_at : ℕ → ℕ → KeptRows
whole_at id cell = record { id = id; den = 1; rows = (cell, 1) ∷ [] }

abbrev pub over_two : ℕ → ℕ → KeptRows
over_two id cell = record { id = id; den = 2; rows = (cell, 1) ∷ [] }

-- a content of these facts and rows
abbrev pub content_of : List KeptFact → List KeptRows → Stored
content_of facts rows = record { schema = []; facts = facts; rows = rows }

-- a batch that drops these ids and puts these rows
abbrev pub batch_of : List ℕ → List KeptRows → Batch
batch_of gone rows = record { schema = None; gone = gone; facts = []; rows = rows }
