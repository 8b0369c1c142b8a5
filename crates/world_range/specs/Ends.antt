-- The law of the ends: each is the sum of some world, and the sum of every world lies between them.
use Rattle.std.specs.Prelude.{◌≡◌, ℕ, ◌≤◌, List, All, length, ◌≤ℤ◌}
use Rattle.std.specs.List.{Contains, zip}
use Rattle.cube_model.specs.Allocation.{ExtendedFact}
use Rattle.cube_model.specs.Cells.{cells_of}
use Rattle.cube_model.specs.Tree.{Dimension}
use Rattle.world_law.specs.Worlds.{world_sum, worlds}
use Rattle.world_range.specs.declared.extreme.Extreme.{Extreme}
use Rattle.world_range.specs.declared.extreme.Extreme.TheVariants.{Greatest, Least}
use Rattle.world_range.specs.Picks.{end_of, picks}

-- a fact has a row
abbrev pub HasRows : ExtendedFact → Type 0
HasRows e = 1 ≤ length e.allocation.rows

-- one of the worlds of facts is that in which they stand at these cells, whatever it weighs
pub record IsWorld (facts : List ExtendedFact) (picked : List ℕ) : Type 0 where
  pub weight : ℕ
  pub there : Contains (worlds facts) (record { weight = weight; standing = zip facts picked })

-- one of the worlds of facts has the sum of the end
pub record IsReachedEnd (extreme : Extreme) (cells : List ℕ) (column : ℕ) (facts : List ExtendedFact) : Type 0 where
  pub world : IsWorld facts (picks extreme cells column facts)
  pub sum : (weight : ℕ) → world_sum cells column (record { weight = weight; standing = zip facts (picks extreme cells column facts) }) ≡ end_of extreme cells column facts

-- both ends of a region's sum of a column are reached, and the sum of no world is beyond them
pub record AreEnds (dims : List Dimension) (region : List ℕ) (column : ℕ) (facts : List ExtendedFact) : Type 0 where
  pub low : IsReachedEnd Least (cells_of dims region) column facts
  pub high : IsReachedEnd Greatest (cells_of dims region) column facts
  pub above : All (λ world. end_of Least (cells_of dims region) column facts ≤ℤ world_sum (cells_of dims region) column world) (worlds facts)
  pub below : All (λ world. world_sum (cells_of dims region) column world ≤ℤ end_of Greatest (cells_of dims region) column facts) (worlds facts)
