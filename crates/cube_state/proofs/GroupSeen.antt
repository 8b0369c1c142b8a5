-- What an edit makes of the group of a code, as a state is seen.
use Rattle.std.proofs.lemmas.Bool.Decides.{nat_tests}
use Rattle.region_algebra.proofs.Tuples.{region-at_code}
use Rattle.std.proofs.Common.{Bool, true, false, refl, ◌≡◌, ℕ, ◌+◌, ◌-◌, ◌*◌, ◌≤◌, Bor, List, length, ap, sym, ◌∙◌, subst, arith, ℤ}
use Rattle.std.specs.Prelude.{All, IfSome, Option, Some, None, slice_get}
use Rattle.std.specs.Option.{option_copied}
use Rattle.cube_model.specs.declared.edit.Fact.{Fact}
use Rattle.cube_model.specs.declared.statistic.CellStat.{CellStat}
use Rattle.cube_model.specs.Allocation.{Allocation, Policy}
use Rattle.cube_model.specs.Cells.{cells_of}
use Rattle.cube_model.specs.Facts.{after, withdraw}
use Rattle.cube_model.specs.Limits.{MAX_CELLS, MAX_FACTS, MAX_VALUE}
use Rattle.cube_model.specs.Tree.{IsTree}
use Rattle.staged_map.specs.Staged.{value_at}
use Rattle.region_algebra.specs.Space.{IsRegion, all_regions, code_of}
use Rattle.fact_groups.specs.Edits.{edited_id, given, taken}
use Rattle.fact_groups.specs.Groups.{Group, column_sums, facts_with, group_at, has_code, spread_at}
use Rattle.fact_records.specs.Shape.{IsShape, width_of_all}
use Rattle.fact_records.specs.Valid.{IsFactOf}
use Rattle.cube_state.specs.declared.edit_moves.Moves.{Moves}
use Rattle.cube_state.specs.GroupAfter.{AreValuesWithin, fact_with_code, members_of, number_of, sums_after}
use Rattle.cube_state.specs.Moves.{AreMoves}
use Rattle.fact_indexes.specs.Kept.{IsState}
use Rattle.cube_state.specs.State.{StateValue, policy_in}
use Rattle.cube_state.proofs.OneGroup.{IfSome-weaker, IsMove, few-members, given-of, group-made, group-none, members-move, others-move, region-few, region-there, spread-there, sums-move, sums-within, taken-of, values-within}

module _ {P : Type 0} (weigh : P → CellStat → ℕ) (state seen : StateValue P) (same : seen ≡ state) (kept : IsState (policy_in weigh seen) seen.shape seen.dims seen.cuts seen.facts seen.kept) where
  abbrev kept_in : IsState (policy_in weigh state) state.shape state.dims state.cuts state.facts state.kept
  kept_in = subst (λ (s : StateValue P). IsState (policy_in weigh s) s.shape s.dims s.cuts s.facts s.kept) same kept

  -- the group that is kept
  pub group-seen : (code : ℕ) (got : Option (Bor Group)) → option_copied got ≡ value_at seen.kept.groups code → option_copied got ≡ group_at (policy_in weigh state) (width_of_all state.shape.measures) state.dims state.facts code
  group-seen code got is = subst (λ (s : StateValue P). option_copied got ≡ value_at s.kept.groups code) same is ∙ kept_in.groups code

  module _ (trees : All IsTree seen.dims) (moves : Moves) (are : AreMoves (policy_in weigh state) state.shape state.dims state.facts moves) where
    pub move-seen : IsMove state.shape state.dims moves.edit state.facts
    move-seen = record {
      trees = subst (λ (s : StateValue P). All IsTree s.dims) same trees;
      over = are.over;
      accepted = are.accepted;
      valid = kept_in.valid;
    }

    -- the facts that an edit takes and gives have regions of the space
    region-of : (o : Option Fact) → IfSome o (IsFactOf state.shape state.dims) → IfSome o (λ f. IsRegion state.dims f.region)
    region-of o each = IfSome-weaker (IsFactOf state.shape state.dims) (λ f. IsRegion state.dims f.region) o (λ f of. of.placed.region) each

    pub taken-placed : (o : Option Fact) → o ≡ moves.taken → IfSome o (λ f. IsRegion state.dims f.region)
    taken-placed o is = subst (λ o. IfSome o (λ f. IsRegion state.dims f.region)) (sym (is ∙ are.takes)) (region-of (taken moves.edit state.facts) (taken-of state.shape state.dims moves.edit state.facts move-seen))

    pub given-placed : (o : Option Fact) → o ≡ moves.given → IfSome o (λ f. IsRegion state.dims f.region)
    given-placed o is = subst (λ o. IfSome o (λ f. IsRegion state.dims f.region)) (sym (is ∙ are.gives)) (region-of (given moves.edit) (given-of state.shape state.dims moves.edit state.facts move-seen))

    -- a fact that has a code has its region
    pub region-seen : (o : Option Fact) → IfSome o (λ f. IsRegion state.dims f.region) → (code : ℕ) (f : Fact) → fact_with_code state.dims code o ≡ Some f → Some f.region ≡ slice_get (all_regions state.dims) code
    region-seen None placed code f is = absurd (clash is)
      where
        clash : None ≡ Some f → ⊥
        clash e = cc
    region-seen (Some g) placed code f is = either (has_code state.dims code g) refl is
      where
        either : (b : Bool) → has_code state.dims code g ≡ b → fact_with_code state.dims code (Some g) ≡ Some f → Some f.region ≡ slice_get (all_regions state.dims) code
        either true has found =
            let here : Some g ≡ Some f = rw has at found in
            let its : g ≡ f = cc in
            let at : code ≡ code_of state.dims g.region = grind (arith, nat_tests, has) in
            ap (λ (fact : Fact). Some fact.region) (sym its) ∙ sym (ap (slice_get (all_regions state.dims)) at ∙ region-at_code state.dims g.region move-seen.trees placed)
        either false has found = let here : None ≡ Some f = rw has at found in cc

    abbrev later : List Fact
    later = after moves.edit state.facts

    abbrev columns : ℕ
    columns = width_of_all state.shape.measures

    abbrev policy : Policy
    policy = policy_in weigh state

    pub columns-seen : (n : ℕ) → n ≡ 1 + width_of_all seen.shape.measures → n - 1 ≡ columns
    columns-seen n is = omega (arith, is, ap (λ (s : StateValue P). width_of_all s.shape.measures) same)

    module _ (code : ℕ) (got : Option (Bor Group)) (has : option_copied got ≡ value_at seen.kept.groups code) where
      pub few-seen : members_of (option_copied got) ≤ MAX_FACTS
      few-seen = subst (λ o. members_of o ≤ MAX_FACTS) (sym (group-seen code got has)) (few-members policy columns state.dims state.facts code kept_in.valid.few)

      -- the facts of the code but for the one of the edit's id
      pub others-seen : (took from : Option Fact) → took ≡ fact_with_code state.dims code from → from ≡ moves.taken → (members less : ℕ) → members ≡ members_of (option_copied got) → less ≡ number_of took
          → length (facts_with state.dims code (withdraw (edited_id moves.edit) state.facts)) + less ≡ members
      others-seen took from took_is from_is members less members_is less_is =
          omega (
            arith,
            others-move policy state.shape state.dims moves.edit state.facts move-seen code,
            members_is ∙ ap members_of (group-seen code got has),
            less_is ∙ ap number_of (took_is ∙ ap (fact_with_code state.dims code) (from_is ∙ are.takes)),
          )

      -- the sums of the group are those of accepted values
      pub sums-seen : (n : ℕ) → n ≡ 1 + width_of_all seen.shape.measures → IsShape seen.shape → IfSome (option_copied got) (λ g. AreValuesWithin (n - 1) (MAX_FACTS * MAX_VALUE) g.sums)
      sums-seen n is shaped =
          let within = sums-within policy state.shape state.dims moves.edit state.facts move-seen code (subst (λ (s : StateValue P). IsShape s.shape) same shaped) in
          subst (λ o. IfSome o (λ g. AreValuesWithin (n - 1) (MAX_FACTS * MAX_VALUE) g.sums)) (sym (group-seen code got has))
          (subst (λ c. IfSome (group_at policy columns state.dims state.facts code) (λ g. AreValuesWithin c (MAX_FACTS * MAX_VALUE) g.sums)) (sym (columns-seen n is)) within)

      -- and so are the values of the facts that the edit takes and gives
      values-of : (n : ℕ) → n ≡ 1 + width_of_all seen.shape.measures → IsShape seen.shape → (fact : Option Fact) → IfSome fact (IsFactOf state.shape state.dims) → (o : Option Fact) → o ≡ fact_with_code state.dims code fact → IfSome o (λ f. AreValuesWithin (n - 1) MAX_VALUE f.cols)
      values-of n is shaped fact each o at =
          subst (λ o. IfSome o (λ f. AreValuesWithin (n - 1) MAX_VALUE f.cols)) (sym at)
          (subst (λ c. IfSome (fact_with_code state.dims code fact) (λ f. AreValuesWithin c MAX_VALUE f.cols)) (sym (columns-seen n is)) (values-within state.shape state.dims code fact (subst (λ (s : StateValue P). IsShape s.shape) same shaped) each))

      pub taken-within : (n : ℕ) → n ≡ 1 + width_of_all seen.shape.measures → IsShape seen.shape → (o : Option Fact) → o ≡ fact_with_code state.dims code moves.taken → IfSome o (λ f. AreValuesWithin (n - 1) MAX_VALUE f.cols)
      taken-within n is shaped o at = values-of n is shaped (taken moves.edit state.facts) (taken-of state.shape state.dims moves.edit state.facts move-seen) o (at ∙ ap (fact_with_code state.dims code) are.takes)

      pub given-within : (n : ℕ) → n ≡ 1 + width_of_all seen.shape.measures → IsShape seen.shape → (o : Option Fact) → o ≡ fact_with_code state.dims code moves.given → IfSome o (λ f. AreValuesWithin (n - 1) MAX_VALUE f.cols)
      given-within n is shaped o at = values-of n is shaped (given moves.edit) (given-of state.shape state.dims moves.edit state.facts move-seen) o (at ∙ ap (fact_with_code state.dims code) are.gives)

      module _ (took gave from to : Option Fact) (took_is : took ≡ fact_with_code state.dims code from) (from_is : from ≡ moves.taken) (gave_is : gave ≡ fact_with_code state.dims code to) (to_is : to ≡ moves.given) where
        less_one : took ≡ fact_with_code state.dims code (taken moves.edit state.facts)
        less_one = took_is ∙ ap (fact_with_code state.dims code) (from_is ∙ are.takes)

        one_more : gave ≡ fact_with_code state.dims code (given moves.edit)
        one_more = gave_is ∙ ap (fact_with_code state.dims code) (to_is ∙ are.gives)

        sums-after : (n : ℕ) → n ≡ 1 + width_of_all seen.shape.measures → sums_after (n - 1) (option_copied got) took gave ≡ column_sums columns (facts_with state.dims code later)
        sums-after n is =
            ap (λ c. sums_after c (option_copied got) took gave) (columns-seen n is)
            ∙ ap (λ o. sums_after columns o took gave) (group-seen code got has)
            ∙ ap (λ f. sums_after columns (group_at policy columns state.dims state.facts code) f gave) less_one
            ∙ ap (λ f. sums_after columns (group_at policy columns state.dims state.facts code) (fact_with_code state.dims code (taken moves.edit state.facts)) f) one_more
            ∙ sums-move policy state.shape state.dims moves.edit state.facts move-seen code

        module _ (members less more : ℕ) (members_is : members ≡ members_of (option_copied got)) (less_is : less ≡ number_of took) (more_is : more ≡ number_of gave) where
          -- the facts that have the code after the edit
          moved : length (facts_with state.dims code later) + less ≡ members + more
          moved =
              omega (
                arith,
                members-move policy state.shape state.dims moves.edit state.facts move-seen code,
                members_is ∙ ap members_of (group-seen code got has),
                less_is ∙ ap number_of less_one,
                more_is ∙ ap number_of one_more,
              )

          pub enough-seen : less ≤ members + more
          enough-seen = omega (arith, moved)

          left : members + more - less ≡ length (facts_with state.dims code later)
          left = omega (arith, moved)

          pub none-seen : members + more - less ≡ 0 → None ≡ group_at policy columns state.dims later code
          none-seen none = group-none policy columns state.dims later code (sym left ∙ none)

          module _ (found : Option (List ℕ)) (is : found ≡ slice_get (all_regions seen.dims) code) (some : members + more - less ≡ 0 → ⊥) where
            is_in : found ≡ slice_get (all_regions state.dims) code
            is_in = subst (λ (s : StateValue P). found ≡ slice_get (all_regions s.dims) code) same is

            some_in : 1 ≤ length (facts_with state.dims code later)
            some_in = omega (arith, left, some)

            pub there-seen : found ≡ None → ⊥
            there-seen none = region-there policy state.shape state.dims moves.edit state.facts move-seen code found is_in some_in none

            module _ (region : List ℕ) (this : found ≡ Some region) where
              pub few-cells-seen : length (cells_of state.dims region) ≤ MAX_CELLS
              few-cells-seen = region-few policy state.shape state.dims moves.edit state.facts move-seen code found is_in some_in region this

              pub spread-seen : IfSome (option_copied got) (λ g. g.spread ≡ spread_at policy state.dims state.facts region)
              spread-seen =
                  subst (λ o. IfSome o (λ g. g.spread ≡ spread_at policy state.dims state.facts region)) (sym (group-seen code got has))
                  (spread-there policy state.shape state.dims moves.edit state.facts move-seen code found is_in some_in region this)

              -- they are a group
              pub made-seen : (a : Allocation) (n : ℕ) (sums : List ℤ) → a ≡ spread_at policy state.dims later region → n ≡ 1 + width_of_all seen.shape.measures → sums ≡ sums_after (n - 1) (option_copied got) took gave
                  → Some (record { spread = a; count = members + more - less; sums = sums }) ≡ group_at policy columns state.dims later code
              made-seen a n sums spread of_columns sums_are =
                  let whole : Allocation → ℕ → List ℤ → Group = λ a m s. record { spread = a; count = m; sums = s } in
                  ap (λ x. Some (whole x (members + more - less) sums)) spread
                  ∙ ap (λ m. Some (whole (spread_at policy state.dims later region) m sums)) left
                  ∙ ap (λ s. Some (whole (spread_at policy state.dims later region) (length (facts_with state.dims code later)) s)) (sums_are ∙ sums-after n of_columns)
                  ∙ group-made policy state.shape state.dims moves.edit state.facts move-seen code found is_in some_in region this
