-- Where an id stands among facts, or where it would go.
use Rattle.std.specs.Prelude.{ℕ, ◌<◌, ◌≤◌, List, [], length, slice_index_or}
use Rattle.cube_base.specs.Search.{IsKeyAt, IsKeyGap}
use Rattle.cube_model.specs.declared.edit.Fact.{Fact}

-- what is read past the end
abbrev pub no_fact : Fact
no_fact = record { id = 0; region = []; cols = [] }

-- the id at a place
abbrev pub id_at : List Fact → ℕ → ℕ
id_at facts i = (slice_index_or facts i no_fact).id

-- smaller ids stand before the first place, and greater ones from the second on
pub record IsCut (facts : List Fact) (id low high : ℕ) : Type 0 where
  pub smaller_before : (k : ℕ) → k < low → id_at facts k < id
  pub greater_after : (k : ℕ) → high ≤ k → k < length facts → id < id_at facts k

-- the fact at the place has the id
abbrev pub IsIdAt : List Fact → ℕ → ℕ → Type 0
IsIdAt facts id place = IsKeyAt (λ f. f.id) no_fact facts id place

-- the id has no fact, and one would go to the place
abbrev pub IsGapAt : List Fact → ℕ → ℕ → Type 0
IsGapAt facts id place = IsKeyGap (λ f. f.id) no_fact facts id place
