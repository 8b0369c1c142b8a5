-- The groups after an edit.
use Rattle.std.specs.Prelude.{◌≡◌, ℕ, Bool, false, List, filter, length, map, not, sum_by, ◌||◌, Option}
use Rattle.std.specs.Option.{option_map_or}
use Rattle.cube_model.specs.declared.edit.Edit.{Edit}
use Rattle.cube_model.specs.declared.edit.Fact.{Fact}
use Rattle.cube_model.specs.Allocation.{Policy}
use Rattle.cube_model.specs.Cells.{is_among}
use Rattle.cube_model.specs.Difference.{is_same}
use Rattle.cube_model.specs.Facts.{after, withdraw}
use Rattle.cube_model.specs.Tree.{Dimension}
use Rattle.staged_map.specs.Staged.{Entries}
use Rattle.fact_groups.specs.Edits.{edited_id, given, taken}
use Rattle.fact_groups.specs.Groups.{Group, facts_with, group_at, has_code}
use Rattle.region_index.specs.Content.{AreAscending}
use Rattle.cube_state.specs.declared.changed_groups.Regrouped.{Regrouped}

-- ascending codes that hold every one whose group an edit may change
pub record HoldChanged (policy : Policy) (columns : ℕ) (dims : List Dimension) (edit : Edit) (facts : List Fact) (codes : List ℕ) : Type 0 where
  pub ascending : AreAscending codes
  pub others : (code : ℕ) → is_among codes code ≡ false → group_at policy columns dims (after edit facts) code ≡ group_at policy columns dims facts code

-- a region is spread otherwise after an edit, where it has facts before and after it
abbrev pub group_is_respread : Option Group → Option Group → Bool
group_is_respread before now = option_map_or (λ b. option_map_or (λ n. not (is_same b.spread n.spread)) now false) before false

-- those of the codes whose region is, ascending as they are
abbrev pub spread_anew : Policy → ℕ → List Dimension → Edit → List Fact → List ℕ → List ℕ
spread_anew policy columns dims edit facts codes = filter (λ code. group_is_respread (group_at policy columns dims facts code) (group_at policy columns dims (after edit facts) code)) codes

-- how many facts have one of the codes, but for the one of the edit's id
abbrev pub other_count : List Dimension → Edit → List Fact → List ℕ → ℕ
other_count dims edit facts codes = sum_by (λ code. length (facts_with dims code (withdraw (edited_id edit) facts))) codes

-- the old fact or the new fact of an edit is of the code
abbrev pub is_edited_at : List Dimension → Edit → List Fact → ℕ → Bool
is_edited_at dims edit facts code = option_map_or (has_code dims code) (taken edit facts) false || option_map_or (has_code dims code) (given edit) false

-- those of the codes whose group is another after the edit, or may be
abbrev pub regrouped : Policy → ℕ → List Dimension → Edit → List Fact → List ℕ → List ℕ
regrouped policy columns dims edit facts codes =
    filter (λ code. is_edited_at dims edit facts code || group_is_respread (group_at policy columns dims facts code) (group_at policy columns dims (after edit facts) code)) codes

-- these codes, each with its group after the edit
abbrev pub groups_after : Policy → ℕ → List Dimension → Edit → List Fact → List ℕ → Entries Group
groups_after policy columns dims edit facts codes = map (λ code. (code, group_at policy columns dims (after edit facts) code)) (regrouped policy columns dims edit facts codes)

-- the groups that an edit changes, made from codes that hold all of them
pub record IsRegrouped (policy : Policy) (columns : ℕ) (dims : List Dimension) (edit : Edit) (facts : List Fact) (regrouped : Regrouped) : Type 0 where
  pub codes : List ℕ
  pub hold : HoldChanged policy columns dims edit facts codes
  pub groups : regrouped.groups ≡ groups_after policy columns dims edit facts codes
  pub anew : regrouped.spread_anew ≡ spread_anew policy columns dims edit facts codes
  pub others : regrouped.others ≡ other_count dims edit facts regrouped.spread_anew
