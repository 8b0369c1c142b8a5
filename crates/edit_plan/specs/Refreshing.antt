-- Which facts an edit refreshes, given by the groups after it.
use Rattle.std.specs.Prelude.{◌≡◌, ℕ, Bool, true, false, List, All, filter, find, length, map, not, sum_by, ◌==◌, if◌then◌else◌, Option, Some, None, unwrap_or}
use Rattle.std.specs.List.{flat_map}
use Rattle.std.specs.Option.{option_and_then, option_map, option_map_or}
use Rattle.cube_model.specs.declared.edit.Edit.{Edit}
use Rattle.cube_model.specs.declared.edit.Fact.{Fact}
use Rattle.cube_model.specs.Allocation.{Allocation, Policy}
use Rattle.cube_model.specs.Ascending.{ascends_from}
use Rattle.cube_model.specs.Difference.{is_same, refreshed}
use Rattle.cube_model.specs.Facts.{after}
use Rattle.cube_model.specs.Tree.{Dimension}
use Rattle.region_algebra.specs.Space.{code_of}
use Rattle.staged_map.specs.Staged.{Entries, staged_entry}
use Rattle.fact_groups.specs.Edits.{given}
use Rattle.fact_groups.specs.Groups.{Group}
use Rattle.fact_groups.specs.Refreshed.{is_new_or_moved}
use Rattle.cube_state.specs.State.{ids_with}

-- each code once, ascending
abbrev pub AscendByCode : Entries Group → Type 0
AscendByCode entries = ascends_from (λ entry. entry.0) 0 entries ≡ true

-- the group of a code, which is the one before where there is no entry
abbrev pub group_now : Entries Group → (ℕ → Option Group) → ℕ → Option Group
group_now entries before code = unwrap_or (staged_entry entries code) (before code)

-- both are there and the same
abbrev pub is_same_spread : Option Allocation → Option Allocation → Bool
is_same_spread before now = option_map_or (λ a. option_map_or (is_same a) now false) before false

-- how many there are at codes
abbrev pub id_count_at : List Dimension → List Fact → List ℕ → ℕ
id_count_at dims facts codes = sum_by (λ code. length (ids_with dims facts code)) codes

-- the ids but for one, each with a code
abbrev pub others_with : ℕ → ℕ → List ℕ → List (ℕ × ℕ)
others_with id code ids = map (λ other. (other, code)) (filter (λ other. not (other == id)) ids)

-- those of the imprecise facts, each with the code of its region, code by code
abbrev pub others_at : List Dimension → List Fact → ℕ → List ℕ → List (ℕ × ℕ)
others_at dims facts id codes = flat_map (λ code. others_with id code (ids_with dims facts code)) codes

-- the id of an edit's new fact, with the code of its region, where its id is new or its allocation changed
abbrev pub own_pair : Policy → List Dimension → Edit → List Fact → Option (ℕ × ℕ)
own_pair policy dims edit facts = option_and_then (λ f. if is_new_or_moved policy dims edit facts f then Some (f.id, code_of dims f.region) else None) (given edit)

-- each of the ids is that of a fact whose region has the code beside it
abbrev pub AreOfFacts : List Dimension → List Fact → List (ℕ × ℕ) → Type 0
AreOfFacts dims facts pairs = All (λ pair. option_map (λ f. code_of dims f.region) (find (λ f. f.id == pair.0) facts) ≡ Some pair.1) pairs

-- the ids that an edit refreshes, each with the code of its fact's region after the edit
pub record AreRefreshed (policy : Policy) (dims : List Dimension) (edit : Edit) (facts : List Fact) (pairs : List (ℕ × ℕ)) : Type 0 where
  pub ids : map (λ pair. pair.0) pairs ≡ refreshed policy dims facts (after edit facts)
  pub codes : AreOfFacts dims (after edit facts) pairs
