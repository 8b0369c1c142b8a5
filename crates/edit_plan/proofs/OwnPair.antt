-- Whether the fact that an edit gives is new or lies otherwise than before, by the groups.
use Rattle.std.proofs.Common.{◌≡◌, ℕ, Bool, true, false, List, refl, ap, sym, ◌∙◌, subst}
use Rattle.std.specs.Prelude.{All, IfSome, Option, Some, None, find, not, ◌==◌, if◌then◌else◌}
use Rattle.std.specs.Option.{option_and_then, option_map, option_map_or}
use Rattle.cube_model.specs.declared.edit.Edit.{Edit}
use Rattle.cube_model.specs.declared.edit.Fact.{Fact}
use Rattle.cube_model.specs.declared.statistic.CellStat.{CellStat}
use Rattle.cube_model.specs.Allocation.{Allocation, Policy}
use Rattle.cube_model.specs.Facts.{after}
use Rattle.cube_model.specs.Tree.{Dimension, IsTree}
use Rattle.region_algebra.specs.Space.{IsRegion, code_of}
use Rattle.fact_groups.specs.Edits.{edited_id, given, taken}
use Rattle.fact_groups.specs.Groups.{Group, group_at, spread_at}
use Rattle.fact_groups.specs.Refreshed.{is_new_or_moved, is_spread_otherwise}
use Rattle.fact_groups.proofs.Groups.{first-holds, group_at-found}
use Rattle.fact_records.specs.Shape.{width_of_all}
use Rattle.fact_records.specs.Valid.{AreValid}
use Rattle.cube_state.specs.declared.edit_moves.Moves.{Moves}
use Rattle.cube_state.specs.declared.changed_groups.Regrouped.{Regrouped}
use Rattle.cube_state.specs.Moves.{AreMoves, region_code}
use Rattle.cube_state.specs.Regrouped.{IsRegrouped}
use Rattle.edit_plan.specs.Refreshing.{group_now, is_same_spread, own_pair}
use Rattle.cube_state.specs.State.{StateValue, policy_in}
use Rattle.edit_plan.proofs.GroupsNow.{groups-now}
use Rattle.edit_plan.proofs.RefreshedPairs.{given-found, given-has}
use Rattle.edit_plan.proofs.SeenPairs.{later-regions, regions}

module _ (policy : Policy) (columns : ℕ) (dims : List Dimension) (facts : List Fact) (trees : All IsTree dims) (named : All (λ f. IsRegion dims f.region) facts) where
  -- a fact that is found is spread as the group of its region
  pub spread-found : (id : ℕ) (fact : Fact) → find (λ f. f.id == id) facts ≡ Some fact → option_map (λ (g : Group). g.spread) (group_at policy columns dims facts (code_of dims fact.region)) ≡ Some (spread_at policy dims facts fact.region)
  spread-found id fact found =
      let P = λ (o : Option Fact). IfSome o (λ f. option_map (λ (g : Group). g.spread) (group_at policy columns dims facts (code_of dims f.region)) ≡ Some (spread_at policy dims facts f.region)) in
      subst P found (group_at-found policy columns dims facts id trees named)

module _ (policy : Policy) (dims : List Dimension) (edit : Edit) (facts : List Fact) (gave : Fact) (gives : given edit ≡ Some gave) where
  abbrev later_spread : Allocation
  later_spread = spread_at policy dims (after edit facts) gave.region

  abbrev pair_if : Bool → Option (ℕ × ℕ)
  pair_if moved = if moved then Some (gave.id, code_of dims gave.region) else None

  -- the fact that is given is new or moved where none was taken that lay as it does
  moved-unless : is_new_or_moved policy dims edit facts gave ≡ not (option_map_or (λ f. is_same_spread (Some (spread_at policy dims facts f.region)) (Some later_spread)) (taken edit facts) false)
  moved-unless = ap (λ id. option_map_or (λ f. is_spread_otherwise policy dims edit facts f.region gave.region) (find (λ f. f.id == id) facts) true) (given-has edit gave gives) ∙ either (taken edit facts)
    where
      either : (took : Option Fact) → option_map_or (λ f. is_spread_otherwise policy dims edit facts f.region gave.region) took true ≡ not (option_map_or (λ f. is_same_spread (Some (spread_at policy dims facts f.region)) (Some later_spread)) took false)
      either None = refl
      either (Some f) = refl

  pub own-unless : (lay : Bool) (spread : Option Allocation) → spread ≡ Some later_spread → lay ≡ option_map_or (λ f. is_same_spread (Some (spread_at policy dims facts f.region)) spread) (taken edit facts) false
      → own_pair policy dims edit facts ≡ pair_if (not lay)
  own-unless lay spread is lay_is =
      ap (option_and_then (λ f. if is_new_or_moved policy dims edit facts f then Some (f.id, code_of dims f.region) else None)) gives
      ∙ ap pair_if (moved-unless ∙ ap not (sym (lay_is ∙ ap (λ o. option_map_or (λ f. is_same_spread (Some (spread_at policy dims facts f.region)) o) (taken edit facts) false) is)))

module _ {P : Type 0} (weigh : P → CellStat → ℕ) (state : StateValue P) (valid : AreValid state.shape state.dims state.facts) (moves : Moves)
    (are : AreMoves (policy_in weigh state) state.shape state.dims state.facts moves) where
  abbrev policy : Policy
  policy = policy_in weigh state

  abbrev columns : ℕ
  columns = width_of_all state.shape.measures

  abbrev later : List Fact
  later = after moves.edit state.facts

  module _ (took : Fact) (takes : moves.taken ≡ Some took) where
    found : taken moves.edit state.facts ≡ Some took
    found = sym are.takes ∙ takes

    -- the fact that is taken lies in a region of the space, and was spread as its group
    pub taken-named : IsRegion state.dims took.region
    taken-named = first-holds (λ f. IsRegion state.dims f.region) (λ f. f.id == edited_id moves.edit) state.facts took (regions weigh state valid moves are) found

    pub taken-lay : (lay : Bool) (code : ℕ) (before spread : Option Allocation) → All IsTree state.dims → code ≡ code_of state.dims took.region
        → before ≡ option_map (λ (g : Group). g.spread) (group_at policy columns state.dims state.facts code) → lay ≡ is_same_spread before spread
        → lay ≡ option_map_or (λ f. is_same_spread (Some (spread_at policy state.dims state.facts f.region)) spread) (taken moves.edit state.facts) false
    taken-lay lay code before spread trees at before_is lay_is =
        lay_is
        ∙ ap (λ o. is_same_spread o spread)
        (before_is ∙ ap (λ c. option_map (λ (g : Group). g.spread) (group_at policy columns state.dims state.facts c)) at ∙ spread-found policy columns state.dims state.facts trees (regions weigh state valid moves are) (edited_id moves.edit) took found)
        ∙ sym (ap (λ o. option_map_or (λ f. is_same_spread (Some (spread_at policy state.dims state.facts f.region)) spread) o false) found)

  module _ (gave : Fact) (gives : moves.given ≡ Some gave) where
    code_is : moves.given_code ≡ Some (code_of state.dims gave.region)
    code_is = are.given_at ∙ ap (region_code state.dims) gives

    -- the code that is known of the fact that is given is that of its region
    pub given-at : (code : ℕ) → moves.given_code ≡ Some code → code ≡ code_of state.dims gave.region
    given-at code known = let here : Some code ≡ Some (code_of state.dims gave.region) = sym known ∙ code_is in cc

  module _ (regrouped : Regrouped) (is : IsRegrouped policy columns state.dims moves.edit state.facts regrouped) where
    module _ (trees : All IsTree state.dims) (gave : Fact) (code : ℕ) (spread : Option Allocation) (lay : Bool) (gives : moves.given ≡ Some gave) (at : code ≡ code_of state.dims gave.region)
        (spread_is : spread ≡ option_map (λ (g : Group). g.spread) (group_now regrouped.groups (group_at policy columns state.dims state.facts) code))
        (lay_is : lay ≡ option_map_or (λ f. is_same_spread (Some (spread_at policy state.dims state.facts f.region)) spread) (taken moves.edit state.facts) false) where
      its_given : given moves.edit ≡ Some gave
      its_given = sym are.gives ∙ gives

      now : spread ≡ Some (spread_at policy state.dims later gave.region)
      now =
          spread_is
          ∙ ap (option_map (λ (g : Group). g.spread)) (groups-now policy columns state.dims moves.edit state.facts regrouped is valid.ascending code ∙ ap (group_at policy columns state.dims later) at)
          ∙ spread-found policy columns state.dims later trees (later-regions weigh state valid moves are) (edited_id moves.edit) gave (given-found moves.edit state.facts ∙ its_given)

      pub same-seen : lay ≡ true → None ≡ own_pair policy state.dims moves.edit state.facts
      same-seen lay_so = sym (own-unless policy state.dims moves.edit state.facts gave its_given lay spread now lay_is ∙ ap (λ b. pair_if policy state.dims moves.edit state.facts gave its_given (not b)) lay_so)

      pub moved-seen : lay ≡ false → Some (gave.id, code) ≡ own_pair policy state.dims moves.edit state.facts
      moved-seen lay_so =
          ap {B = Option (ℕ × ℕ)} (λ c. Some (gave.id, c)) at
          ∙ sym (own-unless policy state.dims moves.edit state.facts gave its_given lay spread now lay_is ∙ ap (λ b. pair_if policy state.dims moves.edit state.facts gave its_given (not b)) lay_so)
