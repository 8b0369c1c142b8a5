-- What a state hands out as the ids that an edit refreshes.
use Rattle.std.proofs.Common.{◌≡◌, ℕ, ◌+◌, ◌*◌, ◌≤◌, List, ◌++◌, length, map, ap, ◌∙◌, subst, arith}
use Rattle.std.specs.Prelude.{All, Option}
use Rattle.std.specs.List.Sorted.{IsNonDecreasingBy, IsPermutation}
use Rattle.std.specs.Option.{option_map_or, option_to_list}
use Rattle.cube_model.specs.declared.edit.Fact.{Fact}
use Rattle.cube_model.specs.declared.statistic.CellStat.{CellStat}
use Rattle.cube_model.specs.Difference.{refreshed}
use Rattle.cube_model.specs.Facts.{after}
use Rattle.cube_model.specs.Tree.{IsTree}
use Rattle.region_algebra.specs.Space.{IsRegion}
use Rattle.fact_groups.specs.Edits.{edited_id}
use Rattle.fact_records.specs.Shape.{width_of_all}
use Rattle.fact_records.specs.Valid.{AreValid}
use Rattle.cube_state.specs.declared.edit_moves.Moves.{Moves}
use Rattle.cube_state.specs.declared.changed_groups.Regrouped.{Regrouped}
use Rattle.edit_plan.specs.Bound.{covering_pairs}
use Rattle.cube_state.specs.Moves.{AreMoves}
use Rattle.edit_plan.specs.Refreshing.{AreOfFacts, id_count_at, others_at, own_pair}
use Rattle.cube_state.specs.Regrouped.{IsRegrouped}
use Rattle.cube_state.specs.Regrouped.{other_count, spread_anew}
use Rattle.cube_state.specs.State.{StateValue, policy_in}
use Rattle.cube_state.proofs.Accepting.{AreValid-after, allowed}
use Rattle.edit_plan.proofs.HandedOut.{few-anew, handed-out}
use Rattle.edit_plan.proofs.OtherCount.{other_count-few, others-counted}
use Rattle.fact_indexes.proofs.ValidFacts.{valid-regions}
use Rattle.edit_plan.proofs.RefreshedPairs.{ascends-anew, codes-sorted, ids-sorted, refreshed-counted}

module _ {P : Type 0} (weigh : P → CellStat → ℕ) (state : StateValue P) (valid : AreValid state.shape state.dims state.facts) (moves : Moves)
    (are : AreMoves (policy_in weigh state) state.shape state.dims state.facts moves) where
  abbrev later : List Fact
  later = after moves.edit state.facts

  pub regions : All (λ f. IsRegion state.dims f.region) state.facts
  regions = valid-regions state.shape state.dims state.facts valid

  pub later-valid : AreValid state.shape state.dims later
  later-valid = AreValid-after state.shape state.dims moves.edit state.facts are.over (allowed state.shape state.dims moves.edit state.facts are.accepted) valid

  pub later-regions : All (λ f. IsRegion state.dims f.region) later
  later-regions = valid-regions state.shape state.dims later later-valid

  module _ (regrouped : Regrouped) (is : IsRegrouped (policy_in weigh state) (width_of_all state.shape.measures) state.dims moves.edit state.facts regrouped) (trees : All IsTree state.dims) where
    -- the regions that are spread anew are few, and so are the ids that are handed out of them
    pub looked-seen : (codes : List ℕ) → codes ≡ regrouped.spread_anew → length codes ≤ covering_pairs (policy_in weigh state) state.dims moves.edit state.facts
    looked-seen codes codes_are =
        omega (
          arith,
          ap {B = ℕ} length (codes_are ∙ is.anew),
          few-anew (policy_in weigh state) (width_of_all state.shape.measures) state.dims moves.edit state.facts valid.ascending trees regions later-regions is.codes is.hold,
        )

    pub handed-seen : (codes : List ℕ) (before now : ℕ) → codes ≡ regrouped.spread_anew → now ≤ before + (length codes + id_count_at state.dims state.facts codes)
        → now ≤ before + 2 * covering_pairs (policy_in weigh state) state.dims moves.edit state.facts
    handed-seen codes before now codes_are few =
        omega (
          arith,
          few,
          looked-seen codes codes_are,
          ap (id_count_at state.dims state.facts) (codes_are ∙ is.anew),
          handed-out (policy_in weigh state) (width_of_all state.shape.measures) state.dims moves.edit state.facts valid.ascending trees regions later-regions is.codes is.hold,
        )

    -- the other facts there are few
    pub few-seen : regrouped.others ≤ length state.facts
    few-seen =
        omega (
          arith,
          is.others,
          ap (other_count state.dims moves.edit state.facts) is.anew,
          other_count-few state.dims moves.edit state.facts (spread_anew (policy_in weigh state) (width_of_all state.shape.measures) state.dims moves.edit state.facts is.codes)
              (ascends-anew (policy_in weigh state) state.dims moves.edit state.facts valid.ascending (width_of_all state.shape.measures) is.codes is.hold),
        )

    -- and with the edited one they are those that are refreshed
    pub count-seen : (own : Option (ℕ × ℕ)) → own ≡ own_pair (policy_in weigh state) state.dims moves.edit state.facts
        → regrouped.others + option_map_or (λ pair. 1) own 0 ≡ length (refreshed (policy_in weigh state) state.dims state.facts later)
    count-seen own own_is =
        omega (
          arith,
          is.others,
          ap (other_count state.dims moves.edit state.facts) is.anew,
          others-counted (policy_in weigh state) (width_of_all state.shape.measures) state.dims moves.edit state.facts valid.ascending trees regions later-regions is.codes,
          ap {B = ℕ} (λ (o : Option (ℕ × ℕ)). option_map_or (λ pair. 1) o 0) own_is,
          refreshed-counted (policy_in weigh state) state.dims moves.edit state.facts valid.ascending (width_of_all state.shape.measures) is.codes is.hold trees regions later-regions,
        )

    module _ (id : ℕ) (codes : List ℕ) (others pairs sorted : List (ℕ × ℕ)) (own : Option (ℕ × ℕ)) (id_is : id ≡ edited_id moves.edit) (codes_are : codes ≡ regrouped.spread_anew)
        (others_are : others ≡ others_at state.dims state.facts id codes)
        (own_is : own ≡ own_pair (policy_in weigh state) state.dims moves.edit state.facts)
        (pairs_are : pairs ≡ others ++ option_to_list own)
        (moved : IsPermutation pairs sorted) where
      all_are : pairs ≡ others_at state.dims state.facts (edited_id moves.edit) (spread_anew (policy_in weigh state) (width_of_all state.shape.measures) state.dims moves.edit state.facts is.codes)
          ++ option_to_list (own_pair (policy_in weigh state) state.dims moves.edit state.facts)
      all_are =
          pairs_are
          ∙ ap (λ o. others ++ option_to_list o) own_is
          ∙ ap (λ ps. ps ++ option_to_list (own_pair (policy_in weigh state) state.dims moves.edit state.facts))
          (others_are ∙ ap (λ i. others_at state.dims state.facts i codes) id_is ∙ ap (others_at state.dims state.facts (edited_id moves.edit)) (codes_are ∙ is.anew))

      pub ids-seen : IsNonDecreasingBy (λ pair. pair.0) sorted → map (λ pair. pair.0) sorted ≡ refreshed (policy_in weigh state) state.dims state.facts later
      ids-seen rises =
          ids-sorted (policy_in weigh state) state.dims moves.edit state.facts valid.ascending (width_of_all state.shape.measures) is.codes is.hold sorted (subst (λ (ps : List (ℕ × ℕ)). IsPermutation ps sorted) all_are moved) trees regions later-regions rises

      pub codes-seen : AreOfFacts state.dims later sorted
      codes-seen = codes-sorted (policy_in weigh state) state.dims moves.edit state.facts valid.ascending (width_of_all state.shape.measures) is.codes is.hold sorted (subst (λ (ps : List (ℕ × ℕ)). IsPermutation ps sorted) all_are moved)
