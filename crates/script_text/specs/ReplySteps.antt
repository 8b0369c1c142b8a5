-- What the steps of appending a reply say.
use Rattle.std.specs.Prelude.{◌≡◌, ℕ, List, ◌∷◌, length, take, ℤ, pos}
use Rattle.std.specs.List.{flat_map}
use Rattle.cube_model.specs.declared.term.Term.{Term}

-- a TAB and a field each
abbrev pub fields_text : List (List ℕ) → List ℕ
fields_text fields = flat_map (λ field. 9 ∷ field) fields

-- the numerators of a term, that of the count first
abbrev pub numerators_of : Term → List ℤ
numerators_of term = pos term.count ∷ term.sums

-- the new bytes begin with the old ones
abbrev pub Keeps : List ℕ → List ℕ → Type 0
Keeps old new = take (length old) new ≡ old
