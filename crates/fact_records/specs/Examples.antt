-- Small shapes and facts, for which values and refusals were worked out by hand.
use Rattle.std.specs.Prelude.{ℕ, List, [], ◌∷◌, codes, None, Some, pos}
use Rattle.cube_model.specs.declared.edit.Fact.{Fact}
use Rattle.fact_records.specs.declared.shape.Kind.TheVariants.{Number, Parts}
use Rattle.fact_records.specs.declared.shape.Measure.{Measure}
use Rattle.fact_records.specs.Shape.{ShapeValue}

-- a measure of numbers, and one of distributions of 100 over two outcomes
abbrev pub number : ℕ → Measure
number column = record { name = 110 ∷ []; kind = Number; first_col = column }

abbrev pub hundred_parts : ℕ → Measure
hundred_parts column = record { name = 112 ∷ []; kind = Parts 100 (codes "good" ∷ codes "bad" ∷ []); first_col = column }

-- one number
abbrev pub one_number : ShapeValue
one_number = record { measures = number 1 ∷ []; weight = None }

-- a number before a distribution, and after it
abbrev pub number_and_parts : ShapeValue
number_and_parts = record { measures = number 1 ∷ hundred_parts 2 ∷ []; weight = None }

abbrev pub parts_and_number : ShapeValue
parts_and_number = record { measures = hundred_parts 1 ∷ number 3 ∷ []; weight = None }

-- two numbers, where cells weigh by the sum of the second
abbrev pub second_weighs : ShapeValue
second_weighs = record { measures = number 1 ∷ number 2 ∷ []; weight = Some 1 }

-- a fact of one value
abbrev pub fact_at : ℕ → List ℕ → ℕ → Fact
fact_at id region value = record { id = id; region = region; cols = pos value ∷ [] }

-- two facts on one cell, a third on its neighbour, and one that is on one of the two
abbrev pub four_facts : List Fact
four_facts = fact_at 1 (2 ∷ 1 ∷ []) 100 ∷ fact_at 2 (2 ∷ 1 ∷ []) 300 ∷ fact_at 3 (3 ∷ 1 ∷ []) 50 ∷ fact_at 4 (1 ∷ 1 ∷ []) 600 ∷ []
