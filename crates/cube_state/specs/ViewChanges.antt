-- What the groups that an edit changes change in views.
use Rattle.std.specs.Prelude.{◌≡◌, ℕ, ◌≤◌, All, true, false, List, ◌++◌, length, Option}
use Rattle.std.specs.List.{flat_map}
use Rattle.cube_model.specs.Tree.{Dimension}
use Rattle.fact_groups.specs.Groups.{Group}
use Rattle.fact_indexes.specs.ViewChanges.{IsOfRegion, group_changes}
use Rattle.staged_map.specs.Staged.{Entries, value_at}
use Rattle.view_store.specs.declared.change.ViewChange.{ViewChange}
use Rattle.view_store.specs.Changes.{FitsViews}
use Rattle.view_store.specs.Views.{ViewMaps}
use Rattle.cube_state.specs.State.{StateValue}

-- the group before is taken away, where there is one, and the group after is put, where there is one
abbrev pub changes_at : List Dimension → ℕ → Option Group → Option Group → List ViewChange
changes_at dims code before now = group_changes false dims code before ++ group_changes true dims code now

-- so at each of these codes, which have groups of which these are the ones after
abbrev pub changes_by : List Dimension → (ℕ → Option Group) → Entries Group → List ViewChange
changes_by dims before entries = flat_map (λ entry. changes_at dims entry.0 (before entry.0) entry.1) entries

-- where there is a group after, the code is that of a region
abbrev pub EntriesAreOfRegions : List Dimension → Entries Group → Type 0
EntriesAreOfRegions dims entries = All (λ entry. IsOfRegion dims entry.0 entry.1) entries

-- what an edit changes in views, after which there are these groups: at each code the kept group is taken away, and the one after is put
abbrev pub all_changes : {P : Type 0} → StateValue P → Entries Group → List ViewChange
all_changes state groups = changes_by state.dims (value_at state.kept.groups) groups

-- Changes that suffice for views: each view can be changed by them, and they are all of these where there is a view.
pub record SufficeFor (dims : List Dimension) (maps : ViewMaps) (all changes : List ViewChange) : Type 0 where
  pub fit : FitsViews dims changes maps
  pub whole : 1 ≤ length maps.views → changes ≡ all
