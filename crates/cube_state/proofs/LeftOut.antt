-- A group that is not made anew after an edit stays as it was.
use Rattle.std.proofs.Common.{◌≡◌, ℕ, ◌<◌, Bool, true, false, List, length, refl, ap, sym, ◌∙◌}
use Rattle.std.specs.Prelude.{AllPairs, Option, Some, None, find, not, slice_get, ◌||◌}
use Rattle.std.specs.Option.{option_map, option_map_or}
use Rattle.std.proofs.lemmas.Bool.{or_parts}
use Rattle.cube_model.specs.declared.edit.Edit.{Edit}
use Rattle.cube_model.specs.declared.edit.Fact.{Fact}
use Rattle.cube_model.specs.Allocation.{Allocation, Policy, allocation}
use Rattle.cube_model.specs.Difference.{is_same}
use Rattle.cube_model.specs.Facts.{after}
use Rattle.cube_model.specs.Tree.{Dimension}
use Rattle.fact_groups.specs.Edits.{given, taken}
use Rattle.fact_groups.specs.Groups.{Group, HaveSameGroupsBut, column_sums, facts_with, group_at, has_code}
use Rattle.fact_groups.proofs.Elsewhere.{fewer-codes, filter-after, find-first}
use Rattle.fact_groups.proofs.Refreshing.{same_allocations}
use Rattle.cube_state.specs.Regrouped.{HoldChanged, group_is_respread, is_edited_at, regrouped}

module _ (policy : Policy) (columns : ℕ) (dims : List Dimension) (edit : Edit) (facts : List Fact) (up : AllPairs (λ f g. f.id < g.id) facts) where
  abbrev later : List Fact
  later = after edit facts

  module _ (code : ℕ) where
    abbrev whole : Allocation → List Fact → Group
    whole spread members = record { spread = spread; count = length members; sums = column_sums columns members }

    -- where an edit neither takes nor gives a fact of the code, and the region is spread as before, the group stays
    group_at-same : option_map_or (has_code dims code) (taken edit facts) false ≡ false → option_map_or (has_code dims code) (given edit) false ≡ false
        → group_is_respread (group_at policy columns dims facts code) (group_at policy columns dims later code) ≡ false
        → group_at policy columns dims later code ≡ group_at policy columns dims facts code
    group_at-same took gave alike =
        let members : facts_with dims code later ≡ facts_with dims code facts = filter-after (has_code dims code) edit facts up took gave in
        let found : find (has_code dims code) later ≡ find (has_code dims code) facts =
        find-first (has_code dims code) later ∙ ap (λ (fs : List Fact). slice_get fs 0) members ∙ sym (find-first (has_code dims code) facts) in
        let now : group_at policy columns dims later code ≡ option_map (λ f. whole (allocation policy dims later f) (facts_with dims code facts)) (find (has_code dims code) facts) =
        ap (option_map (λ f. whole (allocation policy dims later f) (facts_with dims code later))) found
        ∙ ap (λ (fs : List Fact). option_map (λ f. whole (allocation policy dims later f) fs) (find (has_code dims code) facts)) members in
        now ∙ either (find (has_code dims code) facts) (sym (ap (group_is_respread (group_at policy columns dims facts code)) now) ∙ alike)
      where
        either : (o : Option Fact)
            → group_is_respread (option_map (λ f. whole (allocation policy dims facts f) (facts_with dims code facts)) o) (option_map (λ f. whole (allocation policy dims later f) (facts_with dims code facts)) o) ≡ false
            → option_map (λ f. whole (allocation policy dims later f) (facts_with dims code facts)) o ≡ option_map (λ f. whole (allocation policy dims facts f) (facts_with dims code facts)) o
        either None is = refl
        either (Some f) is = ap (λ a. Some (whole a (facts_with dims code facts))) (sym (same_allocations (allocation policy dims facts f) (allocation policy dims later f) (unless (is_same (allocation policy dims facts f) (allocation policy dims later f)) is)))
          where
            unless : (b : Bool) → not b ≡ false → b ≡ true
            unless true is = refl
            unless false is = sym is

  abbrev anew : ℕ → Bool
  anew code = is_edited_at dims edit facts code || group_is_respread (group_at policy columns dims facts code) (group_at policy columns dims later code)

  -- so does each that is not made anew, where the codes hold all that may change
  pub groups-left_out : (codes : List ℕ) → HoldChanged policy columns dims edit facts codes → HaveSameGroupsBut (regrouped policy columns dims edit facts codes) policy columns dims facts later
  groups-left_out codes hold =
      fewer-codes policy columns dims facts later codes anew hold.others
      (λ code none.
      let parts = or_parts (is_edited_at dims edit facts code) (group_is_respread (group_at policy columns dims facts code) (group_at policy columns dims later code)) none in
      let edited = or_parts (option_map_or (has_code dims code) (taken edit facts) false) (option_map_or (has_code dims code) (given edit) false) parts.0 in
      group_at-same code edited.0 edited.1 parts.1)
