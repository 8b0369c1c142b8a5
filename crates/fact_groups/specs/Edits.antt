-- The old fact of an edit, and its new fact.
use Rattle.std.specs.Prelude.{ℕ, List, ◌==◌, Option, Some, None, find}
use Rattle.cube_model.specs.declared.edit.Fact.{Fact}
use Rattle.cube_model.specs.declared.edit.Edit.{Edit}
use Rattle.cube_model.specs.declared.edit.Edit.TheVariants.{Put, Change, Withdraw}

-- the id that an edit is about
abbrev pub edited_id : Edit → ℕ
edited_id (Put fact) = fact.id
edited_id (Change fact) = fact.id
edited_id (Withdraw id) = id

-- the old fact of an edit, if there is one: also a put takes the place of the fact of its id
abbrev pub taken : Edit → List Fact → Option Fact
taken edit facts = find (λ f. f.id == edited_id edit) facts

-- the new fact of an edit, if there is one
abbrev pub given : Edit → Option Fact
given (Put fact) = Some fact
given (Change fact) = Some fact
given (Withdraw id) = None
