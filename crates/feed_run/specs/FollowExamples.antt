-- Feeds over a small cube, for which the ends were worked out by hand.
use Rattle.std.specs.Prelude.{ℕ, List, [], ◌∷◌, ◌++◌, codes, Option, Some, None}
use Rattle.row_feed.specs.FeedText.{feed_bytes, fields_line}
use Rattle.feed_run.specs.declared.feed_stop.FeedStop.{FeedStop}
use Rattle.feed_run.specs.Following.{Base, refusal_of}

-- a line of fields
abbrev pub line : List (List ℕ) → List ℕ
line [] = []
line (first ∷ fields) = fields_line first fields

-- one dimension with the leaves b and c below a, no measure, and cells that weigh as many facts as they have
abbrev pub small_schema_lines : List (List ℕ)
small_schema_lines =
    line (codes "cube" ∷ codes "1" ∷ []) ∷ line (codes "policy" ∷ codes "count" ∷ []) ∷ line (codes "dimension" ∷ codes "D" ∷ [])
    ∷ line (codes "node" ∷ codes "0" ∷ codes "a" ∷ []) ∷ line (codes "node" ∷ codes "1" ∷ codes "b" ∷ []) ∷ line (codes "node" ∷ codes "1" ∷ codes "c" ∷ []) ∷ codes "end" ∷ []

-- a fact's line
abbrev pub fact : List ℕ → List ℕ → List ℕ
fact id node = line (codes "fact" ∷ id ∷ node ∷ [])

-- the first lines of a feed, up to those of the facts
abbrev pub head : List (List ℕ)
head = line (codes "feed" ∷ codes "1" ∷ []) ∷ small_schema_lines

-- the base with one fact on b, which has ten lines
abbrev pub small_base_lines : List (List ℕ)
small_base_lines = head ++ fact (codes "1") (codes "b") ∷ codes "based" ∷ []

-- the line of a batch, and that of the row of b
abbrev pub batch : List ℕ → List (List ℕ) → List ℕ
batch number said = line (codes "batch" ∷ number ∷ said)

abbrev pub row_of_b : List ℕ → List ℕ
row_of_b weight = line (codes "row" ∷ codes "b" ∷ weight ∷ [])

-- a fact more, somewhere, which then lies on b alone; and the rows of it
abbrev pub put_anywhere : List (List ℕ)
put_anywhere = codes "insert" ∷ codes "2" ∷ codes "a" ∷ []

abbrev pub rows_of_2 : List ℕ
rows_of_2 = line (codes "rows" ∷ codes "2" ∷ codes "1" ∷ codes "1" ∷ [])

-- the batch of it with another number, or with another weight
abbrev pub batch_with : List ℕ → List ℕ → List (List ℕ)
batch_with number weight = batch number put_anywhere ∷ rows_of_2 ∷ row_of_b weight ∷ codes "done" ∷ []

-- the whole feed
abbrev pub small_feed : List ℕ → List ℕ → List (List ℕ)
small_feed number weight = small_base_lines ++ batch_with number weight

-- a store with a fact on a node of that number, and one of another schema
abbrev pub store_with : ℕ → Option Base
store_with node = Some (record { text = feed_bytes small_schema_lines; facts = record { id = 1; region = node ∷ []; cols = [] } ∷ [] })

abbrev pub other_store : Option Base
other_store = Some (record { text = codes "cube"; facts = [] })

-- what is after the base where there was nothing in the store
abbrev pub refused_behind : List (List ℕ) → Option FeedStop
refused_behind lines = refusal_of None (small_base_lines ++ lines)
