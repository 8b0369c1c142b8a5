-- Facts of which the last may stand in either of two cells, and facts of one row each.
use Rattle.std.specs.Prelude.{List, [], ◌∷◌, ℤ}
use Rattle.cube_model.specs.Allocation.{ExtendedFact}
use Rattle.world_law.specs.Examples.{spread_fact}

-- two on one cell, a third on its neighbour, and one with this value of which two thirds are there where two are
abbrev pub four_with : ℤ → List ExtendedFact
four_with value =
    spread_fact 1 100 1 ((0, 1) ∷ []) ∷ spread_fact 2 300 1 ((0, 1) ∷ []) ∷ spread_fact 3 50 1 ((4, 1) ∷ [])
    ∷ record { id = 4; values = value ∷ []; allocation = record { den = 3; rows = (0, 2) ∷ (4, 1) ∷ [] } } ∷ []

-- two on one cell
abbrev pub two_single : List ExtendedFact
two_single = spread_fact 1 5 1 ((0, 1) ∷ []) ∷ spread_fact 4 600 1 ((0, 1) ∷ []) ∷ []
