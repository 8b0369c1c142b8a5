-- Measures and terms whose outcomes were pooled by hand.
use Rattle.std.specs.Prelude.{ℕ, List, [], ◌∷◌, codes, pos}
use Rattle.cube_model.specs.declared.term.Term.{Term}
use Rattle.exact_fraction.specs.Examples.{term_with}
use Rattle.fact_records.specs.declared.shape.Kind.TheVariants.{Parts}
use Rattle.fact_records.specs.declared.shape.Measure.{Measure}

-- a distribution over two outcomes, from this column on
abbrev pub two_parts : ℕ → ℕ → Measure
two_parts scale column = record { name = codes "p"; kind = Parts scale (codes "good" ∷ codes "bad" ∷ []); first_col = column }

-- and one over three
abbrev pub three_parts : ℕ → Measure
three_parts column = record { name = codes "q"; kind = Parts 10 (codes "low" ∷ codes "middle" ∷ codes "high" ∷ []); first_col = column }

-- two facts of 10 to 0 and of 10 to 0 to 0, and half of one of 4 to 6 and of 1 to 2 to 7
abbrev pub first_of_two : Term
first_of_two = term_with 1 2 (pos 20 ∷ pos 0 ∷ pos 20 ∷ pos 0 ∷ pos 0 ∷ [])

abbrev pub second_of_two : Term
second_of_two = term_with 2 1 (pos 4 ∷ pos 6 ∷ pos 1 ∷ pos 2 ∷ pos 7 ∷ [])

abbrev pub two_measures : List Term
two_measures = first_of_two ∷ second_of_two ∷ []

-- a fact of 100 to 0
abbrev pub one_outcome : List Term
one_outcome = term_with 1 1 (pos 100 ∷ pos 0 ∷ []) ∷ []
