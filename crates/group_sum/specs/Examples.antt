-- Terms that were merged by hand.
use Rattle.std.specs.Prelude.{ℕ, List, [], ◌∷◌, ℤ, pos, negsuc}
use Rattle.cube_model.specs.declared.term.Term.{Term}

-- a term of one column beside the count
abbrev pub one_sum : ℕ → ℕ → ℤ → Term
one_sum den count sum = record { den = den; count = count; sums = sum ∷ [] }

-- two facts of 100 and 300, and two thirds of one of 600
abbrev pub first_facts : List Term
first_facts = one_sum 1 2 (pos 400) ∷ one_sum 3 2 (pos 1200) ∷ []

-- half of a fact of -7, and a third of one of 600
abbrev pub second_facts : List Term
second_facts = one_sum 2 1 (negsuc 6) ∷ one_sum 3 1 (pos 600) ∷ []

-- a fact of 50
abbrev pub third_facts : List Term
third_facts = one_sum 1 1 (pos 50) ∷ []

-- the first and the second facts
abbrev pub two_merged : List Term
two_merged = one_sum 1 2 (pos 400) ∷ one_sum 2 1 (negsuc 6) ∷ one_sum 3 3 (pos 1800) ∷ []

-- and the third with them
abbrev pub three_merged : List Term
three_merged = one_sum 1 3 (pos 450) ∷ one_sum 2 1 (negsuc 6) ∷ one_sum 3 3 (pos 1800) ∷ []
