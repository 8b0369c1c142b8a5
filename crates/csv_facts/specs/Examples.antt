-- Two facts with their rows, of which the text was written by hand.
use Rattle.std.specs.Prelude.{ℕ, List, [], ◌∷◌, ◌++◌, codes, negsuc, pos}
use Rattle.std.specs.List.{flat_map}
use Rattle.cube_model.specs.Allocation.{ExtendedFact}
use Rattle.fact_records.specs.Examples.{parts_and_number}
use Rattle.region_algebra.specs.Examples.{small_space}
use Rattle.schema_text.specs.declared.word.PolicyWord.TheVariants.{Count}
use Rattle.schema_text.specs.Schema.{SchemaValue}

-- a distribution p and a number n over a family and a pair, of which the name has a comma
abbrev pub family_and_pair : SchemaValue
family_and_pair = record { policy = Count; measures = parts_and_number.measures; names = codes "family" ∷ codes "a,b" ∷ []; dims = small_space; views = [] }

-- a fact in two cells, whose leaves are c and b, d and b, with two thirds and one third
abbrev pub in_two_cells : ExtendedFact
in_two_cells = record { id = 4; values = pos 80 ∷ pos 20 ∷ pos 5 ∷ []; allocation = record { den = 3; rows = (0, 2) ∷ (2, 1) ∷ [] } }

-- a fact in one cell, whose leaves are g and c
abbrev pub in_one_cell : ExtendedFact
in_one_cell = record { id = 12; values = pos 100 ∷ pos 0 ∷ negsuc 6 ∷ []; allocation = record { den = 1; rows = (7, 1) ∷ [] } }

-- lines, each ended by LF
abbrev pub lf_lines : List (List ℕ) → List ℕ
lf_lines lines = flat_map (λ line. line ++ 10 ∷ []) lines

-- a field between double quotes
abbrev pub in_quotes : List ℕ → List ℕ
in_quotes field = 34 ∷ field ++ 34 ∷ []
