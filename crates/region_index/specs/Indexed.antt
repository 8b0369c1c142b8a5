-- An index of facts: what it holds, and which facts cover a cell.
use Rattle.std.specs.Prelude.{◌≡◌, ℕ, Bool, List, filter, map, not, ◌&&◌, ◌==◌}
use Rattle.std.specs.List.{list_any}
use Rattle.cube_model.specs.declared.edit.Fact.{Fact}
use Rattle.cube_model.specs.Cells.{cells_of, is_among}
use Rattle.cube_model.specs.Facts.{is_precise}
use Rattle.cube_model.specs.Tree.{Dimension}
use Rattle.region_algebra.specs.Space.{code_of}
use Rattle.region_index.specs.Content.{Content, ids_at}

-- an imprecise fact whose region has the code
abbrev pub is_indexed_at : List Dimension → ℕ → Fact → Bool
is_indexed_at dims code fact = code_of dims fact.region == code && not (is_precise dims fact)

-- at each code the content holds the ids of the imprecise facts there, in the facts' order
pub record Indexes (dims : List Dimension) (facts : List Fact) (content : Content) : Type 0 where
  pub ids : (code : ℕ) → ids_at content code ≡ map (λ fact. fact.id) (filter (is_indexed_at dims code) facts)

-- an imprecise fact of this id has the region of the code
abbrev pub has_at : List Dimension → ℕ → ℕ → List Fact → Bool
has_at dims code id facts = list_any (λ fact. is_indexed_at dims code fact && fact.id == id) facts

-- an imprecise fact whose region holds the cell
abbrev pub covers : List Dimension → ℕ → Fact → Bool
covers dims cell fact = is_among (cells_of dims fact.region) cell && not (is_precise dims fact)

-- the ids of the facts that cover a cell
abbrev pub ids_that_cover : List Dimension → ℕ → List Fact → List ℕ
ids_that_cover dims cell facts = map (λ fact. fact.id) (filter (covers dims cell) facts)

-- an imprecise fact whose region has the code and holds the cell
abbrev pub covers_at : List Dimension → ℕ → ℕ → Fact → Bool
covers_at dims cell code fact = covers dims cell fact && code_of dims fact.region == code
