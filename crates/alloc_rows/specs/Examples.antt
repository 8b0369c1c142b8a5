-- Two small spaces and facts in them, of which rows were worked out by hand.
use Rattle.std.specs.Prelude.{ℕ, List, [], ◌∷◌, pos}
use Rattle.cube_model.specs.declared.edit.Fact.{Fact}
use Rattle.cube_model.specs.declared.statistic.CellStat.{CellStat}
use Rattle.cube_model.specs.Tree.{Dimension, Entry}
use Rattle.cell_weight.specs.Stats.{no_facts}

-- a node without a name
abbrev node : ℕ → ℕ → Entry
node depth number = record { depth = depth; name = []; number = number }

-- a root with two nodes, of three leaves and of two
abbrev pub five_places : Dimension
five_places = node 0 0 ∷ node 1 1 ∷ node 2 2 ∷ node 2 3 ∷ node 2 4 ∷ node 1 5 ∷ node 2 6 ∷ node 2 7 ∷ []

-- a root with two nodes, of two leaves each
abbrev pub wares : Dimension
wares = node 0 0 ∷ node 1 1 ∷ node 2 2 ∷ node 2 3 ∷ node 1 4 ∷ node 2 5 ∷ node 2 6 ∷ []

-- of both: a cell's code is four times the place of the leaf of the first, and the place of that of the second
abbrev pub two_dims : List Dimension
two_dims = five_places ∷ wares ∷ []

-- a root with two nodes, of one leaf and of two
abbrev pub one_dim : List Dimension
one_dim = (node 0 0 ∷ node 1 1 ∷ node 2 2 ∷ node 1 3 ∷ node 2 4 ∷ node 2 5 ∷ []) ∷ []

-- a fact of one value
abbrev pub fact_at : ℕ → List ℕ → ℕ → Fact
fact_at id region value = record { id = id; region = region; cols = pos value ∷ [] }

-- one of which the first node of the places alone is known
abbrev pub fact_somewhere : Fact
fact_somewhere = fact_at 4 (1 ∷ 2 ∷ []) 600

-- two facts on one cell, a third on its neighbour, and that one
abbrev pub four_facts : List Fact
four_facts = fact_at 1 (2 ∷ 2 ∷ []) 100 ∷ fact_at 2 (2 ∷ 2 ∷ []) 300 ∷ fact_at 3 (3 ∷ 2 ∷ []) 50 ∷ fact_somewhere ∷ []

-- the cells where that one may be
abbrev pub three_cells : List ℕ
three_cells = 0 ∷ 4 ∷ 8 ∷ []

-- no cell has facts
abbrev pub no_stats : ℕ → CellStat
no_stats cell = no_facts

-- of some facts at a cell only their number is known
abbrev pub facts : ℕ → CellStat
facts count = record { count = count; sum = 0 }
