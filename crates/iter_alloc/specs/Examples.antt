-- Facts in a small space, of which components were told by hand.
use Rattle.cube_model.specs.declared.edit.Fact.{Fact}
use Rattle.fact_groups.specs.Examples.{valued_at}
use Rattle.std.specs.Prelude.{List, [], ◌∷◌}

-- two facts that share no cell, and a later one that shares a cell with each
abbrev pub joining_facts : List Fact
joining_facts = valued_at 1 (1 ∷ 1 ∷ []) 7 ∷ valued_at 2 (4 ∷ 0 ∷ []) 3 ∷ valued_at 9 (0 ∷ 1 ∷ []) 1 ∷ []

-- one that may lie in two cells, in which no other fact is
abbrev pub lone_fact : List Fact
lone_fact = valued_at 1 (1 ∷ 1 ∷ []) 7 ∷ []
