-- Four facts, one of which may stand in either of two cells; and two facts, each of which may stand in any of three.
use Rattle.std.specs.Prelude.{ℕ, List, [], ◌∷◌, pos}
use Rattle.cube_model.specs.Allocation.{ExtendedFact}
use Rattle.world_law.specs.Worlds.{World}

-- a fact of one value over these rows
abbrev pub spread_fact : ℕ → ℕ → ℕ → List (ℕ × ℕ) → ExtendedFact
spread_fact id value den rows = record { id = id; values = pos value ∷ []; allocation = record { den = den; rows = rows } }

-- two on one cell, a third on its neighbour, and one of which two thirds are there where two are
abbrev pub four_spread : List ExtendedFact
four_spread = spread_fact 1 100 1 ((0, 1) ∷ []) ∷ spread_fact 2 300 1 ((0, 1) ∷ []) ∷ spread_fact 3 50 1 ((4, 1) ∷ []) ∷ spread_fact 4 600 3 ((0, 2) ∷ (4, 1) ∷ []) ∷ []

-- two over the same three cells, and not in the same shares
abbrev pub rising : ExtendedFact
rising = spread_fact 1 100 6 ((12, 1) ∷ (13, 2) ∷ (16, 3) ∷ [])

abbrev pub halved : ExtendedFact
halved = spread_fact 2 300 4 ((12, 2) ∷ (13, 1) ∷ (16, 1) ∷ [])

abbrev pub two_over_three : List ExtendedFact
two_over_three = rising ∷ halved ∷ []

-- the world of a weight in which they stand at these cells
abbrev pub world_of_two : ℕ → ℕ → ℕ → World
world_of_two weight first second = record { weight = weight; standing = (rising, first) ∷ (halved, second) ∷ [] }
