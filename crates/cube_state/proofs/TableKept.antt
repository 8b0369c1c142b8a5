-- The lists of the views from which a table is made.
use Rattle.std.proofs.Common.{◌≡◌, ℕ, ◌+◌, List, refl, true, ap, sym, ◌∙◌, subst, Ok, Err, Result}
use Rattle.std.specs.Prelude.{All, Contains, IfOk, IfSome, OnOk, Option, Some, None, slice_get}
use Rattle.std.specs.Option.{option_map}
use Rattle.std.proofs.lemmas.List.Elements.{All-contains, All-contains_itself}
use Rattle.std.proofs.lemmas.Slice.Eq.{bytes_eq-Decides}
use Rattle.cube_model.specs.declared.statistic.CellStat.{CellStat}
use Rattle.fact_records.specs.Shape.{width_of_all}
use Rattle.group_sum.specs.Terms.{TermList}
use Rattle.view_store.specs.Facts.{IsViewOfFacts}
use Rattle.view_store.specs.Rolling.{has_depths, listed_under, view_with}
use Rattle.view_store.specs.Views.{IsViewOf, ViewMap, ViewMaps, listed}
use Rattle.view_store.proofs.CutListing.{HasTerms}
use Rattle.fact_indexes.specs.Kept.{IsCutView, IsState}
use Rattle.cube_state.specs.State.{StateValue, policy_in, rows_in}
use Rattle.cube_state.specs.Tables.{IsListUnder, IsOneViewUnder, IsViewUnder}
use Rattle.cube_state.proofs.ViewAnswers.{find-all}

module _ {P : Type 0} (weigh : P → CellStat → ℕ) (state seen : StateValue P) (same : seen ≡ state) (cuts region : List ℕ) where
  -- what such a view has under the region
  list-under : (view : ViewMap) → IsViewUnder weigh seen cuts region view → All HasTerms (listed seen.dims view) → IsListUnder weigh state cuts region (listed_under seen.dims view region)
  list-under view under whole =
      subst (λ (s : StateValue P). IsListUnder weigh s cuts region (listed_under seen.dims view region)) same
      (record { view = view; under = under; entries = refl; whole = whole })

  -- of the one view that was made
  pub list-made : {E : Type 0} (maps : ViewMaps) → IsOneViewUnder weigh state cuts region maps → (result : Result (List (List ℕ × TermList)) E)
      → IfOk result (λ list. IfSome (slice_get maps.views 0) (λ view. list ≡ listed_under seen.dims view region)) → OnOk result (IfSome (slice_get maps.views 0) (λ view. All HasTerms (listed seen.dims view)))
      → IfOk result (IsListUnder weigh state cuts region)
  list-made maps is (Err e) told whole = tt
  list-made maps is (Ok list) told whole =
      let at : slice_get maps.views 0 ≡ Some is.view = ap (λ (views : List ViewMap). slice_get views 0) is.only in
      let under = subst (λ (s : StateValue P). IsViewUnder weigh s cuts region is.view) (sym same) is.under in
      subst (IsListUnder weigh state cuts region) (sym (rw at at told)) (list-under is.view under (rw at at whole))

  -- of a view of all facts
  pub list-full : {E : Type 0} (view : ViewMap) → IsCutView seen.dims cuts (width_of_all seen.shape.measures + 1) (rows_in weigh seen) view → (result : Result (List (List ℕ × TermList)) E)
      → IfOk result (λ list. list ≡ listed_under seen.dims view region) → OnOk result (All HasTerms (listed seen.dims view)) → IfOk result (IsListUnder weigh state cuts region)
  list-full view is (Err e) told whole = tt
  list-full view is (Ok list) told whole =
      subst (IsListUnder weigh state cuts region) (sym told)
      (list-under view (record { some = rows_in weigh seen; columns = is.columns_are; depths = is.cuts_are; over = is.over; of = is.answers; alike = λ low named under. refl }) whole)

  module _ (kept : IsState (policy_in weigh seen) seen.shape seen.dims seen.cuts seen.facts seen.kept)
      (columns : ℕ) (columns_are : columns ≡ seen.kept.views.columns) (each : All (λ view. view.columns ≡ columns) seen.kept.views.views) where
    abbrev views : List ViewMap
    views = seen.kept.views.views

    -- a kept view of the cuts is one of all facts
    kept-under : IfSome (view_with seen.kept.views cuts) (IsViewUnder weigh seen cuts region)
    kept-under = by (view_with seen.kept.views cuts) (find-all (Contains views) (has_depths cuts) views (All-contains_itself views))
      where
        by : (found : Option ViewMap) → IfSome found (λ view. Contains views view × (has_depths cuts view ≡ true)) → IfSome found (IsViewUnder weigh seen cuts region)
        by None is = tt
        by (Some view) is = record {
          some = rows_in weigh seen;
          columns = All-contains (λ (v : ViewMap). v.columns ≡ columns) views view each is.0 ∙ columns_are ∙ kept.views.columns_are;
          depths = (bytes_eq-Decides view.depths cuts).0 is.1;
          over = All-contains (IsViewOf seen.dims) views view kept.views.over is.0;
          of = All-contains (IsViewOfFacts seen.dims (rows_in weigh seen)) views view kept.views.answers is.0;
          alike = λ low named under. refl;
        }

    pub list-kept : {E : Type 0} (result : Result (Option (List (List ℕ × TermList))) E) → IfOk result (λ found. found ≡ option_map (λ view. listed_under seen.dims view region) (view_with seen.kept.views cuts))
        → OnOk result (IfSome (view_with seen.kept.views cuts) (λ view. All HasTerms (listed seen.dims view))) → IfOk result (λ found. IfSome found (IsListUnder weigh state cuts region))
    list-kept (Err e) told whole = tt
    list-kept (Ok found) told whole = subst (λ (o : Option (List (List ℕ × TermList))). IfSome o (IsListUnder weigh state cuts region)) (sym told) (by (view_with seen.kept.views cuts) kept-under whole)
      where
        by : (with_cuts : Option ViewMap) → IfSome with_cuts (IsViewUnder weigh seen cuts region) → IfSome with_cuts (λ view. All HasTerms (listed seen.dims view))
            → IfSome (option_map (λ view. listed_under seen.dims view region) with_cuts) (IsListUnder weigh state cuts region)
        by None under whole = tt
        by (Some view) under whole = list-under view under whole
