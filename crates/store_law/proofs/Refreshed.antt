-- The rows of facts, after a batch that has those of the facts that are new or whose allocation changed.
use Rattle.std.proofs.Common.{◌≡◌, ℕ, ◌<◌, Bool, true, false, cond, List, map, refl, ap, sym, ◌∙◌}
use Rattle.std.specs.Prelude.{AllPairs, Option, Some, None, filter, not, ◌==◌}
use Rattle.std.specs.List.{list_any}
use Rattle.std.specs.Option.{option_map, option_map_or}
use Rattle.std.proofs.lemmas.Bool.{not-false}
use Rattle.cube_model.specs.declared.edit.Fact.{Fact}
use Rattle.cube_model.specs.Allocation.{Policy, allocation, extended}
use Rattle.cube_model.specs.Cells.{is_among}
use Rattle.cube_model.specs.Difference.{is_same, lies_as_before, refreshed}
use Rattle.cube_model.specs.Tree.{Dimension}
use Rattle.fact_groups.proofs.Refreshing.{any-found, found-has, same_allocations}
use Rattle.fact_keeper.specs.Batch.{rows_id, updated}
use Rattle.fact_records.specs.FactList.{fact_of}
use Rattle.edit_plan.specs.Plan.{kept_rows}
use Rattle.edit_plan.proofs.RowsKept.{among-some, record_of}
use Rattle.store_law.proofs.Rowed.{IsLeft, rows-updated, rows_of}

module _ (policy : Policy) (dims : List Dimension) (facts later : List Fact) (up : AllPairs (λ f g. f.id < g.id) facts) (later_up : AllPairs (λ f g. f.id < g.id) later) where
  -- a fact lay so
  abbrev lay : Fact → Fact → Bool
  lay fact before = is_same (allocation policy dims facts before) (allocation policy dims later fact)

  -- a fact that lies as before has the rows that it had
  rows-before : (n : ℕ) (fact : Fact) → fact_of n later ≡ Some fact → lies_as_before policy dims facts later fact ≡ true → option_map (rows_of policy dims facts) (fact_of n facts) ≡ Some (rows_of policy dims later fact)
  rows-before n fact found as_before = by_found (fact_of n facts) refl (sym told ∙ as_before)
    where
      its : fact.id ≡ n
      its = found-has n later fact found

      told : lies_as_before policy dims facts later fact ≡ option_map_or (lay fact) (fact_of n facts) false
      told = any-found fact.id (lay fact) facts up ∙ ap (λ i. option_map_or (lay fact) (fact_of i facts) false) its

      by_found : (before : Option Fact) → fact_of n facts ≡ before → option_map_or (lay fact) before false ≡ true → option_map (rows_of policy dims facts) before ≡ Some (rows_of policy dims later fact)
      by_found None is so = cc
      by_found (Some f) is so =
          let same : f.id ≡ fact.id = found-has n facts f is ∙ sym its in
          ap (λ i. Some (record_of i (allocation policy dims facts f))) same ∙ ap (λ a. Some (record_of fact.id a)) (same_allocations (allocation policy dims facts f) (allocation policy dims later fact) so)

  -- Of the facts before, those are gone that are not there afterwards.
  module _ (gone : List ℕ) (lost : (n : ℕ) → fact_of n later ≡ None → cond (list_any (λ g. g == n) gone) None (fact_of n facts) ≡ None) (not_there : (n : ℕ) → list_any (λ g. g == n) gone ≡ true → fact_of n later ≡ None) where
    still-there : (n : ℕ) (fact : Fact) → fact_of n later ≡ Some fact → list_any (λ g. g == n) gone ≡ false
    still-there n fact found = either (list_any (λ g. g == n) gone) refl
      where
        either : (b : Bool) → list_any (λ g. g == n) gone ≡ b → b ≡ false
        either false is = refl
        either true is = let no : None ≡ Some fact = sym (not_there n is) ∙ found in cc

    left : (n : ℕ) → IsLeft policy dims dims facts later gone (refreshed policy dims facts later) n
    unfolding refreshed
    left n = record { lost = lost n; stays = λ not_among. by_found (fact_of n later) refl not_among }
      where
        none : (b : Bool) (before : Option Fact) → cond b None before ≡ None → cond b None (option_map (rows_of policy dims facts) before) ≡ None
        none true before is = refl
        none false None is = refl
        none false (Some f) is = cc

        by_found : (found : Option Fact) → fact_of n later ≡ found → is_among (map (λ f. f.id) (filter (λ f. not (lies_as_before policy dims facts later f)) later)) n ≡ false
            → cond (list_any (λ g. g == n) gone) None (option_map (rows_of policy dims facts) (fact_of n facts)) ≡ option_map (rows_of policy dims later) found
        by_found None is not_among = none (list_any (λ g. g == n) gone) (fact_of n facts) (lost n is)
        by_found (Some fact) is not_among =
            let among = among-some policy dims facts later later_up (λ f. not (lies_as_before policy dims facts later f)) n fact is in
            let as_before : lies_as_before policy dims facts later fact ≡ true = not-false (lies_as_before policy dims facts later fact) (sym among ∙ not_among) in
            ap (λ b. cond b None (option_map (rows_of policy dims facts) (fact_of n facts))) (still-there n fact is) ∙ rows-before n fact is as_before

    pub rows-refreshed : updated rows_id gone (map kept_rows (filter (λ e. is_among (refreshed policy dims facts later) e.id) (extended policy dims later))) (map kept_rows (extended policy dims facts)) ≡ map kept_rows (extended policy dims later)
    rows-refreshed = rows-updated policy dims dims facts later gone (refreshed policy dims facts later) up later_up left
