-- How a region of a state is spread, before an edit and after it.
use Rattle.std.proofs.Common.{◌≡◌, ℕ, ◌<◌, ◌≤◌, true, false, List, length, refl, ap, sym, ◌∙◌, subst, arith}
use Rattle.std.specs.Prelude.{All}
use Rattle.std.specs.List.{list_any, sum_by}
use Rattle.cube_model.specs.declared.edit.Edit.TheVariants.{Withdraw}
use Rattle.cube_model.specs.declared.edit.Fact.{Fact}
use Rattle.cube_model.specs.declared.statistic.CellStat.{CellStat}
use Rattle.cube_model.specs.Allocation.{Allocation, spread, stat_of}
use Rattle.cube_model.specs.Cells.{all_cells, cells_of, is_among, is_single}
use Rattle.cube_model.specs.Facts.{after}
use Rattle.cube_model.specs.Limits.{MAX_FACTS}
use Rattle.cell_weight.specs.Stats.{stat_at}
use Rattle.alloc_rows.specs.Alloc.{AreFewAt, AreFewIn}
use Rattle.alloc_rows.specs.Changed.{AreChangesAt, Change, changes_among, stat_after}
use Rattle.alloc_rows.proofs.Changes.{among-itself, stat_after-among}
use Rattle.alloc_rows.proofs.Spreading.{sum_by-same}
use Rattle.fact_groups.specs.Groups.{spread_at}
use Rattle.fact_records.specs.Shape.{IsShape}
use Rattle.fact_records.specs.Valid.{AreValid}
use Rattle.cube_state.specs.declared.edit_moves.Moves.{Moves}
use Rattle.cube_state.specs.Moves.{AreMoves}
use Rattle.fact_indexes.specs.Kept.{IsState}
use Rattle.cube_state.specs.State.{StateValue, policy_in}
use Rattle.touched_cells.specs.Touched.{touched}
use Rattle.cube_state.proofs.Accepting.{AreValid-after, allowed}
use Rattle.cube_state.proofs.Below.{reweighing-below, touched-below}
use Rattle.fact_indexes.proofs.Counting.{AreFewIn-facts}
use Rattle.cube_state.proofs.Spreading.{AreChangesAt-touched, holds-reweighing, spread-after, spread-before, spread-same, spread-single, stat_after-touched}
use Rattle.touched_cells.proofs.Touching.{IsStat-valid}

module _ {P : Type 0} (weigh : P → CellStat → ℕ) (state seen : StateValue P) (same : seen ≡ state) (kept : IsState (policy_in weigh seen) seen.shape seen.dims seen.cuts seen.facts seen.kept) where
  -- the statistics of a region's cells count few facts
  pub few-before : (region : List ℕ) → AreFewAt seen.dims seen.kept.stats region
  few-before region = AreFewIn-facts (policy_in weigh seen) seen.dims seen.facts (stat_at seen.kept.stats) region kept.stats kept.valid.few

  -- what is spread by the statistics that are kept
  pub before-seen : (a : Allocation) (region : List ℕ) → a ≡ spread (λ cell. weigh seen.policy (stat_at seen.kept.stats cell)) (cells_of seen.dims region) → a ≡ spread_at (policy_in weigh state) state.dims state.facts region
  before-seen a region is =
      is ∙ spread-before (policy_in weigh seen) seen.dims (Withdraw 0) seen.facts kept.valid.ascending (stat_at seen.kept.stats) kept.stats region ∙ ap (λ (s : StateValue P). spread_at (policy_in weigh s) s.dims s.facts region) same

  pub back-seen : (a : Allocation) (region : List ℕ) → a ≡ spread_at (policy_in weigh state) state.dims state.facts region → a ≡ spread (λ cell. weigh seen.policy (stat_at seen.kept.stats cell)) (cells_of seen.dims region)
  back-seen a region is =
      is ∙ sym (ap (λ (s : StateValue P). spread_at (policy_in weigh s) s.dims s.facts region) same) ∙ sym (spread-before (policy_in weigh seen) seen.dims (Withdraw 0) seen.facts kept.valid.ascending (stat_at seen.kept.stats) kept.stats region)

  module _ (moves : Moves) (are : AreMoves (policy_in weigh state) state.shape state.dims state.facts moves) where
    abbrev is_moves : AreMoves (policy_in weigh seen) seen.shape seen.dims seen.facts moves
    is_moves = subst (λ (s : StateValue P). AreMoves (policy_in weigh s) s.shape s.dims s.facts moves) (sym same) are

    -- the cells of the changes are cells of the space
    pub reweighing-within : All (λ change. change.0 < length (all_cells seen.dims)) moves.reweighing
    reweighing-within =
        subst (λ (cs : List Change). All (λ change. change.0 < length (all_cells seen.dims)) cs) (sym is_moves.reweighs) (reweighing-below (policy_in weigh seen) seen.dims moves.edit seen.facts)

    pub touched-within : All (λ change. change.0 < length (all_cells seen.dims)) moves.touched
    touched-within = subst (λ (cs : List Change). All (λ change. change.0 < length (all_cells seen.dims)) cs) (sym is_moves.touches) (touched-below (policy_in weigh seen) seen.dims moves.edit seen.facts)

    module _ (region : List ℕ) where
      -- a region of one cell, or one that holds no cell which weighs otherwise, is spread as before
      pub kept-single : is_single (cells_of seen.dims region) ≡ true → spread_at (policy_in weigh state) state.dims state.facts region ≡ spread_at (policy_in weigh state) state.dims (after moves.edit state.facts) region
      kept-single single =
          sym (ap (λ (s : StateValue P). spread_at (policy_in weigh s) s.dims s.facts region) same)
          ∙ sym (spread-single (policy_in weigh seen) seen.dims moves.edit seen.facts kept.valid.ascending (stat_at seen.kept.stats) kept.stats region single)
          ∙ ap (λ (s : StateValue P). spread_at (policy_in weigh s) s.dims (after moves.edit s.facts) region) same

      pub kept-elsewhere : list_any (λ change. is_among (cells_of seen.dims region) change.0) moves.reweighing ≡ false
          → spread_at (policy_in weigh state) state.dims state.facts region ≡ spread_at (policy_in weigh state) state.dims (after moves.edit state.facts) region
      kept-elsewhere none =
          let policy = policy_in weigh seen in
          sym (ap (λ (s : StateValue P). spread_at (policy_in weigh s) s.dims s.facts region) same)
          ∙ sym (spread-same policy seen.dims moves.edit seen.facts kept.valid.ascending (stat_at seen.kept.stats) kept.stats region
          (sym (holds-reweighing policy seen.dims moves.edit seen.facts kept.valid.ascending (stat_at seen.kept.stats) kept.stats region) ∙ sym (ap (list_any (λ (change : Change). is_among (cells_of seen.dims region) change.0)) is_moves.reweighs) ∙ none))
          ∙ ap (λ (s : StateValue P). spread_at (policy_in weigh s) s.dims (after moves.edit s.facts) region) same

      module _ (shape_is : IsShape seen.shape) (shown : List Change) (shown_is : shown ≡ changes_among (cells_of seen.dims region) moves.touched) where
        abbrev later : List Fact
        later = after moves.edit seen.facts

        among_touched : shown ≡ changes_among (cells_of seen.dims region) (touched (policy_in weigh seen) seen.dims moves.edit seen.facts)
        among_touched = shown_is ∙ ap (changes_among (cells_of seen.dims region)) is_moves.touches

        valid : AreValid seen.shape seen.dims later
        valid = AreValid-after seen.shape seen.dims moves.edit seen.facts is_moves.over (allowed seen.shape seen.dims moves.edit seen.facts is_moves.accepted) kept.valid

        -- what a step takes
        pub changes-shown : AreChangesAt (cells_of seen.dims region) (stat_at seen.kept.stats) shown
        changes-shown =
            subst (AreChangesAt (cells_of seen.dims region) (stat_at seen.kept.stats)) (sym among_touched)
            (AreChangesAt-touched (policy_in weigh seen) seen.dims moves.edit seen.facts kept.valid.ascending (stat_at seen.kept.stats) kept.stats (IsStat-valid (weigh seen.policy) seen.shape seen.dims later shape_is valid) region)

        few_touched : sum_by (λ cell. (stat_after (stat_at seen.kept.stats) (changes_among (cells_of seen.dims region) (touched (policy_in weigh seen) seen.dims moves.edit seen.facts)) cell).count) (cells_of seen.dims region) ≤ MAX_FACTS
        few_touched =
            let policy = policy_in weigh seen in
            let stats = stat_at seen.kept.stats in
            let cells = cells_of seen.dims region in
            let changes = touched policy seen.dims moves.edit seen.facts in
            let few : sum_by (λ cell. (stat_of policy seen.dims later cell).count) cells ≤ MAX_FACTS = AreFewIn-facts policy seen.dims later (stat_of policy seen.dims later) region (λ cell. refl) valid.few in
            let equal : sum_by (λ cell. (stat_after stats (changes_among cells changes) cell).count) cells ≡ sum_by (λ cell. (stat_of policy seen.dims later cell).count) cells =
            sum_by-same (λ cell. (stat_after stats (changes_among cells changes) cell).count) (λ cell. (stat_of policy seen.dims later cell).count) cells
            (λ k d within. ap (λ (s : CellStat). s.count) (stat_after-among stats cells changes _ (among-itself cells k d within) ∙ stat_after-touched policy seen.dims moves.edit seen.facts kept.valid.ascending stats kept.stats _)) in
            omega (arith, few, equal)

        pub few-after : AreFewIn seen.dims (stat_after (stat_at seen.kept.stats) shown) region
        few-after = subst (λ (cs : List Change). AreFewIn seen.dims (stat_after (stat_at seen.kept.stats) cs) region) (sym among_touched) few_touched

        pub stepped-seen : spread (λ cell. weigh seen.policy (stat_after (stat_at seen.kept.stats) shown cell)) (cells_of seen.dims region) ≡ spread_at (policy_in weigh state) state.dims (after moves.edit state.facts) region
        stepped-seen =
            ap (λ (cs : List Change). spread (λ cell. weigh seen.policy (stat_after (stat_at seen.kept.stats) cs cell)) (cells_of seen.dims region)) among_touched
            ∙ spread-after (policy_in weigh seen) seen.dims moves.edit seen.facts kept.valid.ascending (stat_at seen.kept.stats) kept.stats region
            ∙ ap (λ (s : StateValue P). spread_at (policy_in weigh s) s.dims (after moves.edit s.facts) region) same
