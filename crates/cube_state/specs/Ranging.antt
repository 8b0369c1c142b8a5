-- What facts add at the ends of a region's sum, code by code.
use Rattle.std.specs.Prelude.{◌≡◌, ℕ, ◌*◌, ◌≤◌, Bool, List, ◌∷◌, true, false, filter, map, ℤ, pos, nat_abs, slice_get, slice_index_or, ◌==◌}
use Rattle.std.specs.Option.{option_map_or}
use Rattle.cube_model.specs.declared.edit.Fact.{Fact}
use Rattle.cube_model.specs.declared.statistic.CellStat.{CellStat}
use Rattle.cube_model.specs.Allocation.{ExtendedFact, allocation}
use Rattle.cube_model.specs.Answer.{total_by}
use Rattle.cube_model.specs.Limits.{MAX_FACTS, MAX_VALUE}
use Rattle.fact_groups.specs.Groups.{facts_with}
use Rattle.fact_records.specs.FactList.{fact_of}
use Rattle.world_range.specs.declared.extreme.Extreme.{Extreme}
use Rattle.world_range.specs.declared.extreme.Extreme.TheVariants.{Greatest, Least}
use Rattle.world_range.specs.Picks.{end_of}
use Rattle.world_range.specs.Sides.{part_where}
use Rattle.cube_state.specs.declared.ranging.Ends.{Ends}
use Rattle.cube_state.specs.State.{StateValue, policy_in}

-- a column of a fact: column 0 is 1, and its values follow
abbrev pub column_in : ℕ → Fact → ℤ
column_in column fact = slice_index_or (pos 1 ∷ fact.cols) column (pos 0)

-- a fact of a state with its rows
abbrev pub row_in : {P : Type 0} → (P → CellStat → ℕ) → StateValue P → Fact → ExtendedFact
row_in weigh state fact = record { id = fact.id; values = fact.cols; allocation = allocation (policy_in weigh state) state.dims state.facts fact }

-- an end of the facts whose region has a code, and what the ends of several codes add up to
abbrev pub end_at : {P : Type 0} → (P → CellStat → ℕ) → Extreme → List ℕ → ℕ → StateValue P → ℕ → ℤ
end_at weigh extreme cells column state code = end_of extreme cells column (map (row_in weigh state) (facts_with state.dims code state.facts))

abbrev pub end_over : {P : Type 0} → (P → CellStat → ℕ) → Extreme → List ℕ → ℕ → StateValue P → List ℕ → ℤ
end_over weigh extreme cells column state codes = total_by (end_at weigh extreme cells column state) codes

-- what a value adds at an end where it may stand inside and outside, and what the fact of an id does, if there is one
abbrev pub either_part : Extreme → ℤ → ℤ
either_part extreme value = part_where extreme (record { inside = true; outside = true }) value

abbrev pub id_part : Extreme → ℕ → List Fact → ℕ → ℤ
id_part extreme column facts id = option_map_or (λ f. either_part extreme (column_in column f)) (fact_of id facts) (pos 0)

-- these are the ids of some of these facts, in order: those of which a test holds
pub record AreIdsOfSome (facts : List Fact) (ids : List ℕ) : Type 0 where
  pub holds : Fact → Bool
  pub are : ids ≡ map (λ f. f.id) (filter holds facts)

-- an id is the one at a place of some ids
abbrev pub is_next : List ℕ → ℕ → ℕ → Bool
is_next ids place id = option_map_or (λ next. next == id) (slice_get ids place) false

-- neither end is further from 0 than a limit
pub record LieWithin (limit : ℕ) (ends : Ends) : Type 0 where
  pub least : nat_abs ends.least ≤ limit
  pub greatest : nat_abs ends.greatest ≤ limit

-- these are the ends of the facts at a code, and they are small
pub record AreEndsAt {P : Type 0} (weigh : P → CellStat → ℕ) (cells : List ℕ) (column : ℕ) (state : StateValue P) (code : ℕ) (ends : Ends) : Type 0 where
  pub least : ends.least ≡ end_at weigh Least cells column state code
  pub greatest : ends.greatest ≡ end_at weigh Greatest cells column state code
  pub small : LieWithin (MAX_FACTS * MAX_VALUE) ends
