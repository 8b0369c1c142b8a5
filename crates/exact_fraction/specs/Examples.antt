-- Terms whose sums and quotients were worked out by hand.
use Rattle.std.specs.Prelude.{ℕ, List, [], ◌∷◌, ℤ, pos, negsuc}
use Rattle.cube_model.specs.declared.term.Term.{Term}

-- a term with one column beside the count
abbrev pub term_with : ℕ → ℕ → List ℤ → Term
term_with den count sums = record { den = den; count = count; sums = sums }

-- two facts of 100 and 300, and two thirds of one of 600
abbrev pub two_thirds : List Term
two_thirds = term_with 1 2 (pos 400 ∷ []) ∷ term_with 3 2 (pos 1200 ∷ []) ∷ []

-- three facts of 150, and a fact of 600
abbrev pub four_facts_terms : List Term
four_facts_terms = term_with 1 3 (pos 450 ∷ []) ∷ term_with 3 3 (pos 1800 ∷ []) ∷ []

-- a third of a fact of -1, and with it a fact of 0
abbrev pub less_than_nothing : List Term
less_than_nothing = term_with 3 1 (negsuc 0 ∷ []) ∷ []

abbrev pub nothing_and_less : List Term
nothing_and_less = term_with 1 1 (pos 0 ∷ []) ∷ less_than_nothing

-- 80 to 20, and 50 to 50 with half the weight
abbrev pub two_outcomes : List Term
two_outcomes = term_with 1 1 (pos 80 ∷ pos 20 ∷ []) ∷ term_with 2 1 (pos 50 ∷ pos 50 ∷ []) ∷ []

-- shares of 3^36 and of 2^63, whose least common multiple passes the limit
abbrev pub far_apart : List Term
far_apart = term_with 150094635296999121 1 (pos 0 ∷ []) ∷ term_with 9223372036854775808 1 (pos 0 ∷ []) ∷ []

-- shares of 3^36 and of 5^27, of which the sum passes the limit over the least common multiple, which does not
abbrev pub large_sum : List Term
large_sum = term_with 150094635296999121 33917384686121377 (pos 1 ∷ []) ∷ term_with 7450580596923828125 7172300231876587012 (pos 0 ∷ []) ∷ []

-- shares of 3^36 and of 2^63, and a fact
abbrev pub far_apart_values : List Term
far_apart_values = term_with 1 1 (pos 4 ∷ []) ∷ term_with 150094635296999121 1 (negsuc 4 ∷ []) ∷ term_with 9223372036854775808 1 (pos 3 ∷ []) ∷ []

-- the same with all values below 0
abbrev pub far_apart_losses : List Term
far_apart_losses = term_with 1 1 (negsuc 3 ∷ []) ∷ term_with 150094635296999121 1 (negsuc 4 ∷ []) ∷ term_with 9223372036854775808 1 (negsuc 2 ∷ []) ∷ []

-- shares of 3^36 and of 5^27, of which only the sum of the values passes the limit
abbrev pub large_column : List Term
large_column = term_with 150094635296999121 1000000000 (pos 1000000000000000000 ∷ []) ∷ term_with 7450580596923828125 1 (pos 0 ∷ []) ∷ []

-- the same, of which only the count passes it
abbrev pub large_count : List Term
large_count = term_with 150094635296999121 33917384686121378 (pos 16958692343060689 ∷ []) ∷ term_with 7450580596923828125 7172300231876587022 (pos 3586150115938293511 ∷ []) ∷ []

-- the same, of which only the denominator of a seventh of the quotient passes it
abbrev pub large_divisor : List Term
large_divisor = term_with 150094635296999121 146352968563866812 (pos 146352968563866812 ∷ []) ∷ term_with 7450580596923828125 1591085566970570356 (pos 0 ∷ []) ∷ []

-- shares of two primes, whose count is below one unit
abbrev pub below_a_unit : List Term
below_a_unit = term_with 4611686018427387847 1 (negsuc 4 ∷ []) ∷ term_with 9223372036854775783 1 (pos 3 ∷ []) ∷ []
