-- At which regions the ids of facts are held.
use Rattle.std.specs.Prelude.{ℕ, List, filter, map, not}
use Rattle.cube_model.specs.declared.edit.Fact.{Fact}
use Rattle.cube_model.specs.Facts.{is_precise}
use Rattle.cube_model.specs.Tree.{Dimension}
use Rattle.region_algebra.specs.Space.{code_of}

-- for each imprecise fact the code of its region and its id, in the order of the facts
abbrev pub places_of : List Dimension → List Fact → List (ℕ × ℕ)
places_of dims facts = map (λ fact. (code_of dims fact.region, fact.id)) (filter (λ fact. not (is_precise dims fact)) facts)
