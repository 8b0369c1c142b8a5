-- What an edit will set of what a state keeps, and when that fits the state.
use Rattle.std.specs.Prelude.{◌≡◌, ℕ, Bool, true, List, All, filter, map, nat_lt, ◌||◌, None, unwrap_or}
use Rattle.cube_model.specs.declared.edit.Edit.{Edit}
use Rattle.cube_model.specs.declared.edit.Edit.TheVariants.{Put, Change, Withdraw}
use Rattle.cube_model.specs.declared.edit.Fact.{Fact}
use Rattle.cube_model.specs.declared.statistic.CellStat.{CellStat}
use Rattle.cube_model.specs.Allocation.{ExtendedFact, Policy, row_count, stat_of}
use Rattle.cube_model.specs.Facts.{after, has_id}
use Rattle.cube_model.specs.Tree.{Dimension}
use Rattle.staged_map.specs.Staged.{AreOfDifferentKeys, Entries, Places, have_places, staged_entry, value_at}
use Rattle.cell_weight.specs.Stats.{AreOfDifferentCells, IsStat, change_of, have_stat_places, stat_at}
use Rattle.fact_groups.specs.Groups.{Group, group_at}
use Rattle.fact_records.specs.Shape.{width_of_all}
use Rattle.fact_records.specs.Valid.{IsEditOver}
use Rattle.region_index.specs.Changes.{IsStagedFor, Staging, ids_after}
use Rattle.region_index.specs.Content.{Content, ids_at}
use Rattle.region_index.specs.Indexed.{is_indexed_at}
use Rattle.group_sum.specs.Terms.{TermList}
use Rattle.view_store.specs.declared.change.ViewChange.{ViewChange}
use Rattle.view_store.specs.Changes.{AreStagedFor, HaveRoomFor, facts_put, facts_taken_away}
use Rattle.view_store.specs.Facts.{FollowBy}
use Rattle.view_store.specs.Views.{ViewMaps}
use Rattle.fact_indexes.specs.declared.kept.FactsKept.{FactsKept}
use Rattle.fact_indexes.specs.Anew.{kept_of}
use Rattle.fact_indexes.specs.Kept.{IsState}
use Rattle.cube_state.specs.State.{StateValue, judge_in, policy_in, rows_after, rows_in}

-- what it will set of what is kept beside the facts
pub record SetsValue : Type 0 where
  pub stats : List (ℕ × CellStat)
  pub index : Staging
  pub groups : Entries Group
  pub views : List (Entries TermList)

-- With these statistics set, those kept are the ones of the facts; and there is a place for each.
pub record SetStats (policy : Policy) (dims : List Dimension) (facts : List Fact) (places : Places CellStat) (changes : List (ℕ × CellStat)) : Type 0 where
  pub different : AreOfDifferentCells changes
  pub placed : have_stat_places places changes ≡ true
  pub possible : All (λ change. IsStat change.1) changes
  pub made : (cell : ℕ) → unwrap_or (change_of changes cell) (stat_at places cell) ≡ stat_of policy dims facts cell

-- the same of the index
pub record SetIndex (dims : List Dimension) (facts : List Fact) (content : Content) (stage : Staging) : Type 0 where
  pub staged : IsStagedFor content stage
  pub made : (code : ℕ) → ids_after stage.puts stage.drops code (ids_at content code) ≡ map (λ f. f.id) (filter (is_indexed_at dims code) facts)

-- and of the groups
pub record SetGroups (policy : Policy) (columns : ℕ) (dims : List Dimension) (facts : List Fact) (places : Places Group) (entries : Entries Group) : Type 0 where
  pub different : AreOfDifferentKeys entries
  pub placed : have_places places entries ≡ true
  pub made : (code : ℕ) → unwrap_or (staged_entry entries code) (value_at places code) ≡ group_at policy columns dims facts code

-- and of the views: what is staged was staged for these changes, with which the facts' rows are those after
pub record SetViews (dims : List Dimension) (before after : List ExtendedFact) (maps : ViewMaps) (stage : List (Entries TermList)) : Type 0 where
  pub room : HaveRoomFor maps stage
  pub changes : List ViewChange
  pub staged : AreStagedFor dims changes maps stage
  pub follow : FollowBy before (facts_taken_away changes) (facts_put changes) after

-- there is room for an edit's new fact
abbrev pub has_room : Edit → List Fact → ℕ → Bool
has_room (Put fact) facts spare = has_id fact.id facts || nat_lt 0 spare
has_room (Change fact) facts spare = has_id fact.id facts || nat_lt 0 spare
has_room (Withdraw id) facts spare = true

-- What will be set makes what is kept that of the facts after an edit.
pub record AreSetsFor {P : Type 0} (weigh : P → CellStat → ℕ) (state : StateValue P) (edit : Edit) (sets : SetsValue) : Type 0 where
  pub room : has_room edit state.facts state.kept.spare ≡ true
  pub stats : SetStats (policy_in weigh state) state.dims (after edit state.facts) state.kept.stats sets.stats
  pub index : SetIndex state.dims (after edit state.facts) state.kept.index sets.index
  pub groups : SetGroups (policy_in weigh state) (width_of_all state.shape.measures) state.dims (after edit state.facts) state.kept.groups sets.groups
  pub views : SetViews state.dims (rows_in weigh state) (rows_after weigh state edit) state.kept.views sets.views

-- What an edit will set fits a state: the edit is one of the space and is accepted; what is set is what the edit makes of the state;
-- and there is room for that.
pub record IsEditFor {P : Type 0} (weigh : P → CellStat → ℕ) (state : StateValue P) (edit : Edit) (set : SetsValue) (count : ℕ) : Type 0 where
  pub over : IsEditOver state.dims edit
  pub accepted : judge_in weigh state edit ≡ None
  pub sets : AreSetsFor weigh state edit set
  pub rows : count ≡ row_count (rows_after weigh state edit)

-- All facts at once fit a state: what is kept of them is what they make it.
abbrev pub AreAllFor : {P : Type 0} → (P → CellStat → ℕ) → StateValue P → FactsKept → Type 0
AreAllFor weigh state all = IsState (policy_in weigh state) state.shape state.dims state.cuts all.facts.facts (kept_of all)
