-- Facts of the small space and what is held of them.
use Rattle.std.specs.Prelude.{ℕ, List, [], ◌∷◌}
use Rattle.cube_model.specs.declared.edit.Fact.{Fact}

abbrev pub fact : ℕ → List ℕ → Fact
fact id region = record { id = id; region = region; cols = [] }

-- One over e, one over all, one at the leaf f with the second leaf of the pair, one over b, and one over e with that
-- leaf, which is one cell.
abbrev pub small_facts : List Fact
small_facts = fact 2 (4 ∷ 0 ∷ []) ∷ fact 4 (0 ∷ 0 ∷ []) ∷ fact 7 (5 ∷ 2 ∷ []) ∷ fact 9 (1 ∷ 0 ∷ []) ∷ fact 11 (4 ∷ 2 ∷ []) ∷ []
