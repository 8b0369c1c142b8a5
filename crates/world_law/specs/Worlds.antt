-- Possible worlds: each fact stands in one cell of its allocation, independently of the others. After Burdick and others, "OLAP Over Uncertain and
-- Imprecise Data", VLDB 2005; here each weight is multiplied by all denominators, so that all numbers are whole.
use Rattle.std.specs.Prelude.{ℕ, ◌*◌, List, [], ◌∷◌, length, map, filter, sum_by, ℤ, pos, ◌*ℤ◌, slice_index_or}
use Rattle.std.specs.List.{flat_map}
use Rattle.cube_model.specs.Allocation.{ExtendedFact}
use Rattle.cube_model.specs.Answer.{total_by}
use Rattle.cube_model.specs.Cells.{cells_of, is_among}
use Rattle.cube_model.specs.Tree.{Dimension}

-- a world: its weight, and each fact with the cell in which it stands, in order
pub record World : Type 0 where
  pub weight : ℕ
  pub standing : List (ExtendedFact × ℕ)

-- the world in which a fact stands at the cell of one of its rows too
abbrev pub with_fact : ExtendedFact → ℕ × ℕ → World → World
with_fact e row world = record { weight = world.weight * row.1; standing = (e, row.0) ∷ world.standing }

-- all worlds: of no fact there is one, of weight 1
unfoldable pub worlds : List ExtendedFact → List World
worlds [] = record { weight = 1; standing = [] } ∷ []
worlds (e ∷ rest) = flat_map (λ row. map (with_fact e row) (worlds rest)) e.allocation.rows

-- the number of worlds, and the sum of their weights
abbrev pub world_count : List ExtendedFact → ℕ
world_count facts = length (worlds facts)

abbrev pub mass : List ExtendedFact → ℕ
mass facts = sum_by (λ world. world.weight) (worlds facts)

-- a column of a fact: column 0 is 1, and its values follow
abbrev pub column_of : ℕ → ExtendedFact → ℤ
column_of column e = slice_index_or (pos 1 ∷ e.values) column (pos 0)

-- the sum of a column over the facts that stand in one of these cells
abbrev pub world_sum : List ℕ → ℕ → World → ℤ
world_sum cells column world = total_by (λ s. column_of column s.0) (filter (λ s. is_among cells s.1) world.standing)

-- a region's total of a column: the sum over all worlds of what stands in the region, times the world's weight
abbrev pub total : List Dimension → List ℕ → ℕ → List ExtendedFact → ℤ
total dims region column facts = total_by (λ world. world_sum (cells_of dims region) column world *ℤ pos world.weight) (worlds facts)
