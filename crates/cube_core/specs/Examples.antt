-- Measures, rows and terms of a small cube, for which answers, refreshed facts and refusals were worked out by hand.
use Rattle.std.specs.Prelude.{ℕ, List, [], ◌∷◌, Some, ℤ, negsuc, pos}
use Rattle.cube_model.specs.declared.edit.Fact.{Fact}
use Rattle.cube_model.specs.declared.term.Term.{Term}
use Rattle.cube_model.specs.Allocation.{ExtendedFact, Policy, by_count, extended, weigh_sum}
use Rattle.cube_model.specs.Facts.{withdraw}
use Rattle.fact_keeper.specs.declared.content.KeptRows.{KeptRows}
use Rattle.fact_records.specs.Examples.{number}
use Rattle.fact_records.specs.Shape.{ShapeValue, policy_over}
use Rattle.alloc_rows.specs.Examples.{four_facts, two_dims}

-- one measure, by whose sum cells weigh
abbrev pub one_weight : ShapeValue
one_weight = record { measures = number 1 ∷ []; weight = Some 0 }

-- the policy over it
abbrev pub by_value : Policy
by_value = policy_over weigh_sum one_weight

-- a fact of these values on the first cell
abbrev pub fact_on_first_cell : ℕ → List ℤ → Fact
fact_on_first_cell id values = record { id = id; region = 2 ∷ 2 ∷ []; cols = values }

-- the values -1, and two parts that add up to 100, and to more
abbrev pub below_0 : List ℤ
below_0 = negsuc 0 ∷ []

abbrev pub whole_parts : List ℤ
whole_parts = pos 7 ∷ pos 60 ∷ pos 40 ∷ []

abbrev pub wrong_parts : List ℤ
wrong_parts = pos 7 ∷ pos 60 ∷ pos 41 ∷ []

-- the rows of the four facts by their count, and those without the precise ones
abbrev pub four_rows : List ExtendedFact
four_rows = extended by_count two_dims four_facts

abbrev pub row_alone : List ExtendedFact
row_alone = extended by_count two_dims (withdraw 1 (withdraw 2 (withdraw 3 four_facts)))

-- a term with one column beside the count
abbrev pub term_with : ℕ → ℕ → ℕ → Term
term_with den count sum = record { den = den; count = count; sums = pos sum ∷ [] }

-- rows as they are kept
abbrev pub rows_as_kept : ℕ → ℕ → List (ℕ × ℕ) → KeptRows
rows_as_kept id den rows = record { id = id; den = den; rows = rows }
