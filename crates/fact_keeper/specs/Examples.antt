-- Small contents and batches, applied by hand.
use Rattle.std.specs.Prelude.{ℕ, List, [], ◌∷◌, Option, None, pos}
use Rattle.fact_keeper.specs.declared.content.Batch.{Batch}
use Rattle.fact_keeper.specs.declared.content.KeptFact.{KeptFact}
use Rattle.fact_keeper.specs.declared.content.KeptRows.{KeptRows}
use Rattle.fact_keeper.specs.declared.content.Stored.{Stored}

-- a fact of the node 2 with a value
abbrev pub fact : ℕ → ℕ → KeptFact
fact id value = record { id = id; nodes = 2 ∷ []; cols = pos value ∷ [] }

-- rows of one cell over a denominator
abbrev pub whole_cell : ℕ → ℕ → KeptRows
whole_cell id den = record { id = id; den = den; rows = (0, den) ∷ [] }

-- a content of three facts with the rows of two, and a schema of one byte
abbrev pub three_facts : List KeptFact
three_facts = fact 1 10 ∷ fact 2 20 ∷ fact 3 30 ∷ []

abbrev pub small_content : Stored
small_content = record { schema = 97 ∷ []; facts = three_facts; rows = whole_cell 1 1 ∷ whole_cell 3 1 ∷ [] }

-- a batch without deleted ids, and one that drops an id and puts nothing
abbrev pub puts : Option (List ℕ) → List KeptFact → List KeptRows → Batch
puts schema facts rows = record { schema = schema; gone = []; facts = facts; rows = rows }

abbrev pub drops : ℕ → Batch
drops id = record { schema = None; gone = id ∷ []; facts = []; rows = [] }
