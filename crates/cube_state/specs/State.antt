-- What a state is and keeps. What its policy makes cells weigh is an argument of each: its trait says it.
use Rattle.std.specs.Prelude.{◌≡◌, ℕ, ◌+◌, List, [], filter, map, Option, Some, None, slice_get}
use Rattle.std.specs.Option.{option_map_or}
use Rattle.cube_base.specs.declared.code.Code.{Code}
use Rattle.cube_model.specs.declared.edit.Edit.{Edit}
use Rattle.cube_model.specs.declared.edit.Edit.TheVariants.{Put, Change, Withdraw}
use Rattle.cube_model.specs.declared.edit.Fact.{Fact}
use Rattle.cube_model.specs.declared.statistic.CellStat.{CellStat}
use Rattle.cube_model.specs.Allocation.{ExtendedFact, Policy, extended}
use Rattle.cube_model.specs.Answer.{answer}
use Rattle.cube_model.specs.Difference.{refreshed}
use Rattle.cube_model.specs.Facts.{after}
use Rattle.cube_model.specs.Tree.{Dimension}
use Rattle.fact_indexes.specs.Kept.{Kept}
use Rattle.fact_records.specs.Judge.{judge}
use Rattle.fact_records.specs.Shape.{ShapeValue, policy_over, width_of_all}
use Rattle.group_sum.specs.Terms.{TermList}
use Rattle.region_index.specs.Indexed.{is_indexed_at}
use Rattle.view_store.specs.Cuts.{cut_regions, entries_of}

-- a policy, the dimensions of a space, measures, for each view the depths of its cuts, and facts, with what is kept of the facts
pub record StateValue (P : Type 0) : Type 0 where
  pub policy : P
  pub dims : List Dimension
  pub shape : ShapeValue
  pub cuts : List (List ℕ)
  pub facts : List Fact
  pub kept : Kept

-- how a state's cells weigh
abbrev pub policy_in : {P : Type 0} → (P → CellStat → ℕ) → StateValue P → Policy
policy_in weigh state = policy_over (weigh state.policy) state.shape

-- two states of one content: they differ at most in what is kept
pub record HaveSameContent {P : Type 0} (old new : StateValue P) : Type 0 where
  pub policy : new.policy ≡ old.policy
  pub dims : new.dims ≡ old.dims
  pub shape : new.shape ≡ old.shape
  pub cuts : new.cuts ≡ old.cuts
  pub facts : new.facts ≡ old.facts

-- the second is the first with these facts
pub record HasFacts {P : Type 0} (later : List Fact) (old new : StateValue P) : Type 0 where
  pub policy : new.policy ≡ old.policy
  pub dims : new.dims ≡ old.dims
  pub shape : new.shape ≡ old.shape
  pub cuts : new.cuts ≡ old.cuts
  pub facts : new.facts ≡ later

-- the rows of a state's facts, and those of its facts after an edit
abbrev pub rows_in : {P : Type 0} → (P → CellStat → ℕ) → StateValue P → List ExtendedFact
rows_in weigh state = extended (policy_in weigh state) state.dims state.facts

abbrev pub rows_after : {P : Type 0} → (P → CellStat → ℕ) → StateValue P → Edit → List ExtendedFact
rows_after weigh state edit = extended (policy_in weigh state) state.dims (after edit state.facts)

-- why an edit of a state is refused
abbrev pub judge_in : {P : Type 0} → (P → CellStat → ℕ) → StateValue P → Edit → Option Code
judge_in weigh state edit = judge (policy_in weigh state) state.shape state.dims edit state.facts

-- the ids that an edit of a state refreshes
abbrev pub refreshed_in : {P : Type 0} → (P → CellStat → ℕ) → StateValue P → Edit → List ℕ
refreshed_in weigh state edit = refreshed (policy_in weigh state) state.dims state.facts (after edit state.facts)

-- the id of a withdrawal
abbrev pub withdrawn : Edit → Option ℕ
withdrawn (Put fact) = None
withdrawn (Change fact) = None
withdrawn (Withdraw id) = Some id

-- what a state's facts add up to in a region
abbrev pub terms_in : {P : Type 0} → (P → CellStat → ℕ) → StateValue P → List ℕ → TermList
terms_in weigh state region = record { columns = width_of_all state.shape.measures + 1; terms = answer (width_of_all state.shape.measures) state.dims (rows_in weigh state) region }

-- The view at a place: each region of the product of its cuts where the facts have terms, with them, in the order of the product,
-- the first dimension slowest.
abbrev pub view_at : {P : Type 0} → (P → CellStat → ℕ) → StateValue P → ℕ → List (List ℕ × TermList)
view_at weigh state view = option_map_or (λ depths. entries_of (terms_in weigh state) (cut_regions state.dims depths)) (slice_get state.cuts view) []

-- the ids of the imprecise facts whose region has a code
abbrev pub ids_with : List Dimension → List Fact → ℕ → List ℕ
ids_with dims facts code = map (λ f. f.id) (filter (is_indexed_at dims code) facts)
