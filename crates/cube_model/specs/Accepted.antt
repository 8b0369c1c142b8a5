-- What an edit asks of the facts, and of the rows after it.
use Rattle.std.specs.Prelude.{Bool, false, List, [], ◌∷◌, length, nat_le, nat_lt, not, if◌then◌else◌, Option, Some, None}
use Rattle.cube_base.specs.declared.code.Code.{Code}
use Rattle.cube_model.specs.declared.edit.Fact.{Fact}
use Rattle.cube_model.specs.declared.edit.Edit.{Edit}
use Rattle.cube_model.specs.declared.edit.Edit.TheVariants.{Put, Change, Withdraw}
use Rattle.cube_model.specs.Allocation.{ExtendedFact, row_count}
use Rattle.cube_model.specs.Facts.{has_id}
use Rattle.cube_model.specs.Limits.{MAX_FACTS, MAX_ROWS}

-- the code of the first condition that holds
abbrev pub first_that_holds : List (Bool × Code) → Option Code
first_that_holds [] = None
first_that_holds ((holds, code) ∷ rest) = if holds then Some code else first_that_holds rest

-- the first refusal that there is
abbrev pub first_refusal : List (Option Code) → Option Code
first_refusal [] = None
first_refusal (None ∷ refusals) = first_refusal refusals
first_refusal (Some refusal ∷ refusals) = Some refusal

-- an edit is a put of an id that is there
abbrev pub is_repeat : Edit → List Fact → Bool
is_repeat (Put fact) facts = has_id fact.id facts
is_repeat (Change fact) facts = false
is_repeat (Withdraw id) facts = false

-- an edit is a change or a withdrawal of an id that is not there
abbrev pub is_missing : Edit → List Fact → Bool
is_missing (Put fact) facts = false
is_missing (Change fact) facts = not (has_id fact.id facts)
is_missing (Withdraw id) facts = not (has_id id facts)

-- an edit is a put where there is no room for a fact
abbrev pub is_over : Edit → List Fact → Bool
is_over (Put fact) facts = nat_le MAX_FACTS (length facts)
is_over (Change fact) facts = false
is_over (Withdraw id) facts = false

-- the rows are too many
abbrev pub has_many_rows : List ExtendedFact → Bool
has_many_rows rows = nat_lt MAX_ROWS (row_count rows)
