-- How the worlds of facts are walked for one column: a choice for each fact, of the row in which it stands.
use Rattle.std.specs.Prelude.{◌≡◌, ℕ, ◌+◌, ◌*◌, ◌≤◌, List, [], ◌∷◌, All, length, map, sum_by, if◌then◌else◌, ℤ, pos, ◌+ℤ◌, ◌*ℤ◌, nat_abs}
use Rattle.cube_model.specs.Allocation.{ExtendedFact}
use Rattle.cube_model.specs.Answer.{total_by}
use Rattle.cube_model.specs.Cells.{is_among}
use Rattle.cube_model.specs.Limits.{MAX_VALUE}
use Rattle.world_law.specs.Limits.{MAX_MASS, MAX_WORLDS}
use Rattle.world_law.specs.Worlds.{column_of}
use Rattle.world_law.specs.declared.walk.Found.{Found}

-- for each row its weight, and what the fact adds to the column's sum if it stands there
abbrev pub Choice : Type 0
Choice = List (ℕ × ℤ)

-- what a fact adds where it stands at a cell: its column, if the cell is one of these
abbrev pub own : List ℕ → ℕ → ExtendedFact → ℕ → ℤ
own cells column e cell = if is_among cells cell then column_of column e else pos 0

abbrev pub choice_of : List ℕ → ℕ → ExtendedFact → Choice
choice_of cells column e = map (λ row. (row.1, own cells column e row.0)) e.allocation.rows

-- the weights of a choice, and its values times their weights
abbrev pub heft : Choice → ℕ
heft choice = sum_by (λ row. row.0) choice

abbrev pub gain : Choice → ℤ
gain choice = total_by (λ row. row.1 *ℤ pos row.0) choice

-- the number of worlds of choices, their mass, and the total over them
abbrev pub ways : List Choice → ℕ
ways [] = 1
ways (c ∷ cs) = length c * ways cs

abbrev pub whole : List Choice → ℕ
whole [] = 1
whole (c ∷ cs) = heft c * whole cs

abbrev pub yield : List Choice → ℤ
yield [] = pos 0
yield (c ∷ cs) = gain c *ℤ pos (whole cs) +ℤ yield cs *ℤ pos (heft c)

-- the mass of choices is within its limits
pub record IsLight (choices : List Choice) : Type 0 where
  pub some : 1 ≤ whole choices
  pub most : whole choices ≤ MAX_MASS

-- all choices result in what these result in where some facts stand already, with a weight and a sum
pub record Settles (all : List Choice) (weight : ℕ) (sum : ℤ) (left : List Choice) : Type 0 where
  pub worlds : ways all ≡ ways left
  pub mass : whole all ≡ whole left * weight
  pub total : yield all ≡ (sum *ℤ pos (whole left) +ℤ yield left) *ℤ pos weight

-- the worlds of choices, where some facts stand already, were added to what was found
pub record AddsWorlds (choices : List Choice) (weight : ℕ) (sum : ℤ) (old new : Found) : Type 0 where
  pub worlds : new.worlds ≡ old.worlds + ways choices
  pub mass : new.mass ≡ old.mass + whole choices * weight
  pub total : new.total ≡ old.total +ℤ (sum *ℤ pos (whole choices) +ℤ yield choices) *ℤ pos weight

-- no value is large
abbrev pub AreSmall : Choice → Type 0
AreSmall choice = All (λ row. nat_abs row.1 ≤ MAX_VALUE) choice

-- the total is no larger than the mass times the largest sum of a world
abbrev pub IsBoundedByMass : Found → Type 0
IsBoundedByMass found = nat_abs found.total ≤ found.mass * MAX_MASS

-- what is found has room for the worlds of choices
pub record HasRoom (choices : List Choice) (weight : ℕ) (sum : ℤ) (found : Found) : Type 0 where
  pub worlds : found.worlds + ways choices ≤ MAX_WORLDS
  pub mass : found.mass + whole choices * weight ≤ MAX_MASS
  pub some : 1 ≤ whole choices
  pub values : All AreSmall choices
  pub small : nat_abs sum + length choices * MAX_VALUE ≤ MAX_MASS
  pub within : IsBoundedByMass found
