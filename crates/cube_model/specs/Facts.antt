-- Facts, and the list of them as it stands after edits.
use Rattle.std.specs.Prelude.{ℕ, ◌≤◌, Bool, List, ◌∷◌, ◌++◌, filter, not, nat_lt, ◌&&◌, ◌==◌}
use Rattle.std.specs.List.{list_any}
use Rattle.cube_model.specs.declared.edit.Fact.{Fact}
use Rattle.cube_model.specs.declared.edit.Edit.{Edit}
use Rattle.cube_model.specs.declared.edit.Edit.TheVariants.{Put, Change, Withdraw}
use Rattle.cube_model.specs.Limits.{MAX_ID, MIN_ID}
use Rattle.cube_model.specs.Tree.{Dimension}
use Rattle.cube_model.specs.Cells.{cells_of, is_among, is_single}

-- a number that a fact may have
pub record IsId (id : ℕ) : Type 0 where
  pub least : MIN_ID ≤ id
  pub most : id ≤ MAX_ID

-- a fact is precise exactly where its region is one cell
abbrev pub is_precise : List Dimension → Fact → Bool
is_precise dims fact = is_single (cells_of dims fact.region)

-- a precise fact whose cell this is
abbrev pub lies_at : List Dimension → ℕ → Fact → Bool
lies_at dims cell fact = is_precise dims fact && is_among (cells_of dims fact.region) cell

-- a fact of the list has the id
abbrev pub has_id : ℕ → List Fact → Bool
has_id id facts = list_any (λ f. f.id == id) facts

-- the facts with one more, in order of the ids
abbrev pub put : Fact → List Fact → List Fact
put fact facts = filter (λ f. nat_lt f.id fact.id) facts ++ fact ∷ filter (λ f. nat_lt fact.id f.id) facts

-- the facts without the one of this id
abbrev pub withdraw : ℕ → List Fact → List Fact
withdraw id facts = filter (λ f. not (f.id == id)) facts

-- the facts after an edit
abbrev pub after : Edit → List Fact → List Fact
after (Put fact) facts = put fact facts
after (Change fact) facts = put fact (withdraw fact.id facts)
after (Withdraw id) facts = withdraw id facts
