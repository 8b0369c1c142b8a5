-- Facts with their labels beside them, in a list of their own.
use Rattle.cube_model.specs.declared.edit.Fact.{Fact}
use Rattle.std.specs.Prelude.{◌==◌, if◌then◌else◌, ℕ, List, [], ◌∷◌, Option, Some, None}

-- the label of the fact of an id
abbrev pub label_beside : List Fact → List ℕ → ℕ → Option ℕ
label_beside (fact ∷ facts) (label ∷ labels) id = if fact.id == id then Some label else label_beside facts labels id
label_beside facts labels id = None

-- the ids of the facts that have a label
abbrev pub ids_beside : List Fact → List ℕ → ℕ → List ℕ
ids_beside (fact ∷ facts) (label ∷ labels) wanted = if label == wanted then fact.id ∷ ids_beside facts labels wanted else ids_beside facts labels wanted
ids_beside facts labels wanted = []
