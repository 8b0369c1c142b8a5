-- What the groups before and after at codes take away from views and put into them.
use Rattle.std.proofs.Common.{◌≡◌, ℕ, true, false, List, [], ◌∷◌, ◌++◌, append_assoc, map, refl, ap, ◌∙◌}
use Rattle.std.specs.Prelude.{All, Option, Some}
use Rattle.std.specs.List.{cons_option, filter_map}
use Rattle.std.proofs.lemmas.List.Elements.{All-append, All-nil}
use Rattle.cube_model.specs.Tree.{Dimension}
use Rattle.fact_groups.specs.Groups.{Group}
use Rattle.view_store.specs.declared.change.ViewChange.{ViewChange}
use Rattle.view_store.specs.Views.{region_at}
use Rattle.fact_indexes.specs.ViewChanges.{group_changes}
use Rattle.fact_indexes.proofs.ChangeGroups.{each-of, facts_put-of, facts_taken_away-of, group_of, groups_that, puts, takes_away}
use Rattle.cube_state.specs.ViewChanges.{changes_at, changes_by}

-- the changes of codes with groups before and after
module _ (dims : List Dimension) (before now : ℕ → Option Group) where
  abbrev pub changes_with : List ℕ → List ViewChange
  changes_with codes = changes_by dims before (map (λ code. (code, now code)) codes)

  taken-at : (code : ℕ) (was is : Option Group) (changes : List ViewChange) → groups_that takes_away (changes_at dims code was is ++ changes) ≡ cons_option was (groups_that takes_away changes)
  taken-at code was is changes =
      ap (groups_that takes_away) (append_assoc (group_changes false dims code was) (group_changes true dims code is) changes)
      ∙ facts_taken_away-of dims false code was (group_changes true dims code is ++ changes) ∙ ap (cons_option was) (facts_taken_away-of dims true code is changes)

  given-at : (code : ℕ) (was is : Option Group) (changes : List ViewChange) → groups_that puts (changes_at dims code was is ++ changes) ≡ cons_option is (groups_that puts changes)
  given-at code was is changes =
      ap (groups_that puts) (append_assoc (group_changes false dims code was) (group_changes true dims code is) changes)
      ∙ facts_put-of dims false code was (group_changes true dims code is ++ changes) ∙ facts_put-of dims true code is changes

  -- the groups before are taken away, and those after are put
  pub taken-with : (codes : List ℕ) → groups_that takes_away (changes_with codes) ≡ filter_map before codes
  taken-with [] = refl
  taken-with (code ∷ codes) = taken-at code (before code) (now code) (changes_with codes) ∙ ap (cons_option (before code)) (taken-with codes)

  pub given-with : (codes : List ℕ) → groups_that puts (changes_with codes) ≡ filter_map now codes
  given-with [] = refl
  given-with (code ∷ codes) = given-at code (before code) (now code) (changes_with codes) ∙ ap (cons_option (now code)) (given-with codes)

  -- what holds of each group and its region holds of those of each change
  module _ (P : List ℕ → Group → Type 0) (was : (code : ℕ) (g : Group) → before code ≡ Some g → P (region_at dims code) g) (is : (code : ℕ) (g : Group) → now code ≡ Some g → P (region_at dims code) g) where
    pub each-with : (codes : List ℕ) → All (λ change. P change.region (group_of change)) (changes_with codes)
    each-with [] = All-nil (λ change. P change.region (group_of change))
    each-with (code ∷ codes) =
        All-append (λ change. P change.region (group_of change)) (changes_at dims code (before code) (now code)) (changes_with codes)
        (All-append (λ change. P change.region (group_of change)) (group_changes false dims code (before code)) (group_changes true dims code (now code))
        (each-of dims P false code (before code) (was code)) (each-of dims P true code (now code) (is code)))
        (each-with codes)
