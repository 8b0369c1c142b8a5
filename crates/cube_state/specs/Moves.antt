-- What an edit moves.
use Rattle.std.specs.Prelude.{◌≡◌, ℕ, List, Option, Some, None, if◌then◌else◌}
use Rattle.std.specs.Option.{option_and_then, option_map}
use Rattle.cube_model.specs.declared.edit.Fact.{Fact}
use Rattle.cube_model.specs.Allocation.{Policy}
use Rattle.cube_model.specs.Facts.{is_precise}
use Rattle.cube_model.specs.Tree.{Dimension}
use Rattle.region_algebra.specs.Space.{code_of}
use Rattle.fact_groups.specs.Changes.{cell_of}
use Rattle.fact_groups.specs.Edits.{given, taken}
use Rattle.fact_records.specs.Judge.{fact_refusal}
use Rattle.fact_records.specs.Shape.{ShapeValue}
use Rattle.fact_records.specs.Valid.{IsEditOver}
use Rattle.region_index.specs.Changes.{Pair}
use Rattle.cube_state.specs.declared.edit_moves.Moves.{Moves}
use Rattle.touched_cells.specs.Touched.{reweighing, touched}

-- the code of a fact's region, if there is a fact
abbrev pub region_code : List Dimension → Option Fact → Option ℕ
region_code dims fact = option_map (λ f. code_of dims f.region) fact

-- An edit that is refused by no code that is judged before the rows, with its old fact and its new fact, the codes of their
-- regions, the cells of those that are one cell, the changes of the cells that it touches, and those of them that make a cell weigh
-- otherwise.
pub record AreMoves (policy : Policy) (shape : ShapeValue) (dims : List Dimension) (facts : List Fact) (moves : Moves) : Type 0 where
  pub over : IsEditOver dims moves.edit
  pub accepted : fact_refusal shape dims moves.edit facts ≡ None
  pub takes : moves.taken ≡ taken moves.edit facts
  pub gives : moves.given ≡ given moves.edit
  pub taken_at : moves.taken_code ≡ region_code dims moves.taken
  pub given_at : moves.given_code ≡ region_code dims moves.given
  pub taken_in : moves.taken_cell ≡ cell_of dims moves.taken
  pub given_in : moves.given_cell ≡ cell_of dims moves.given
  pub touches : moves.touched ≡ touched policy dims moves.edit facts
  pub reweighs : moves.reweighing ≡ reweighing policy.weigh (touched policy dims moves.edit facts)

-- an imprecise fact as an index of regions has it: the code of its region, and its id
abbrev pub indexed_as : List Dimension → Option Fact → Option Pair
indexed_as dims fact = option_and_then (λ f. if is_precise dims f then None else Some (code_of dims f.region, f.id)) fact

-- the same by what is known of the fact's region: its code, and its cell, where it is one
abbrev pub indexed_by : Option Fact → Option ℕ → Option ℕ → Option Pair
indexed_by fact code None = option_and_then (λ f. option_map (λ k. (k, f.id)) code) fact
indexed_by fact code (Some cell) = None
