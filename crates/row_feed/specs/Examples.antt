-- A feed of a few repairs that was written by hand.
use Rattle.std.specs.Prelude.{ℕ, List, [], ◌∷◌, codes, map, None, pos, ◌==◌, if◌then◌else◌}
use Rattle.cube_model.specs.declared.edit.Fact.{Fact}
use Rattle.cube_model.specs.Tree.{Dimension, Entry}
use Rattle.fact_keeper.specs.declared.content.Batch.{Batch}
use Rattle.fact_records.specs.declared.shape.Kind.TheVariants.{Number}
use Rattle.schema_text.specs.declared.word.PolicyWord.TheVariants.{Count}
use Rattle.schema_text.specs.Schema.{SchemaValue}

-- a node by its depth, its name and its number
abbrev node : ℕ → List ℕ → ℕ → Entry
node depth name number = record { depth = depth; name = name; number = number }

-- two cities of a state, and cars of which there is one; a city more has the next number, but stands after the others
abbrev places : Dimension
places = node 0 (codes "All") 0 ∷ node 1 (codes "TX") 1 ∷ node 2 (codes "Austin") 2 ∷ node 2 (codes "Dallas") 3 ∷ []

abbrev more_places : Dimension
more_places = node 0 (codes "All") 0 ∷ node 1 (codes "TX") 1 ∷ node 2 (codes "Austin") 2 ∷ node 2 (codes "Dallas") 3 ∷ node 2 (codes "Waco") 4 ∷ []

abbrev cars : Dimension
cars = node 0 (codes "All") 0 ∷ node 1 (codes "Camry") 1 ∷ []

-- repairs, by their cost
abbrev repairs_in : Dimension → SchemaValue
repairs_in cities =
    record { policy = Count; measures = record { name = codes "Repair"; kind = Number; first_col = 1 } ∷ []; names = codes "Place" ∷ codes "Auto" ∷ []; dims = cities ∷ cars ∷ []; views = [] }

abbrev pub repairs : SchemaValue
repairs = repairs_in places

abbrev pub more_repairs : SchemaValue
more_repairs = repairs_in more_places

-- a repair of a Camry at a place
abbrev pub repair : ℕ → ℕ → ℕ → Fact
repair id place cost = record { id = id; region = place ∷ 1 ∷ []; cols = pos cost ∷ [] }

-- the batch of a repair somewhere in Texas, of which two thirds are in Austin
abbrev pub somewhere_in_texas : Batch
somewhere_in_texas = record {
  schema = None;
  gone = [];
  facts = record { id = 4; nodes = 1 ∷ 1 ∷ []; cols = pos 600 ∷ [] } ∷ [];
  rows = record { id = 4; den = 3; rows = (0, 2) ∷ (1, 1) ∷ [] } ∷ [];
}

-- a batch that spreads nothing anew
abbrev pub no_rows : Batch
no_rows = record { schema = None; gone = []; facts = []; rows = [] }

-- a line whose TABs are written as `|`
abbrev pub tabbed : List ℕ → List ℕ
tabbed bytes = map (λ b. if b == 124 then 9 else b) bytes
