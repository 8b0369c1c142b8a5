-- The list of a view of a state.
use Rattle.std.proofs.Common.{◌≡◌, ℕ, ◌+◌, ◌-◌, ◌<◌, List, [], length, refl, ap, sym, ◌∙◌, subst, arith}
use Rattle.std.specs.Prelude.{All, IfOk, IfSome, Result, Ok, Err, Option, Some, None, slice_get}
use Rattle.std.specs.Option.{option_map, option_map_or}
use Rattle.std.proofs.lemmas.List.{length-map}
use Rattle.std.proofs.lemmas.List.Elements.{All-get_or}
use Rattle.std.proofs.lemmas.Option.{get_or_from_slice_get, slice_get-map, slice_get_within, slice_get-get_or}
use Rattle.cube_model.specs.declared.statistic.CellStat.{CellStat}
use Rattle.cube_model.specs.Answer.{answer}
use Rattle.cube_model.specs.Tree.{IsTree}
use Rattle.fact_records.specs.Shape.{width_of_all}
use Rattle.group_sum.specs.Terms.{TermList}
use Rattle.region_algebra.specs.Space.{IsRegion}
use Rattle.view_store.specs.Cuts.{cut_regions, entries_of}
use Rattle.view_store.specs.Facts.{IsViewOfFacts}
use Rattle.view_store.specs.Views.{IsViewOf, ViewMap, listed}
use Rattle.view_store.proofs.CutListing.{HasTerms, entries-regions, listed-in_order, terms_over}
use Rattle.fact_indexes.specs.Kept.{IsState}
use Rattle.cube_state.specs.State.{StateValue, policy_in, rows_in, terms_in, view_at}

-- what holds of each item holds of the one at a place
pub All-found : {X : Type 0} (P : X → Type 0) (xs : List X) (i : ℕ) (x : X) → All P xs → slice_get xs i ≡ Some x → P x
All-found P xs i x each at = subst P (get_or_from_slice_get xs i x x at) (All-get_or P xs i x (slice_get_within xs i x at) each)

-- terms over a count and the columns of the values are those of the state
pub terms-wide : {P : Type 0} (weigh : P → CellStat → ℕ) (state : StateValue P) (columns : ℕ) → columns ≡ width_of_all state.shape.measures + 1 → terms_over state.dims (rows_in weigh state) columns ≡ terms_in weigh state
terms-wide weigh state columns wide =
    let values : columns - 1 ≡ width_of_all state.shape.measures = omega (arith, wide) in
    ap (λ n. λ region. record { columns = n; terms = answer (columns - 1) state.dims (rows_in weigh state) region }) wide
    ∙ ap (λ n. λ region. record { columns = width_of_all state.shape.measures + 1; terms = answer n state.dims (rows_in weigh state) region }) values

module _ {P : Type 0} (weigh : P → CellStat → ℕ) (state seen : StateValue P) (same : seen ≡ state) (kept : IsState (policy_in weigh seen) seen.shape seen.dims seen.cuts seen.facts seen.kept)
    (trees : All IsTree seen.dims) (columns : ℕ) (columns_are : columns ≡ seen.kept.views.columns) (each : All (λ view. view.columns ≡ columns) seen.kept.views.views) where
  -- each view has a count and the columns of the values
  pub view-columns : (place : ℕ) (view : ViewMap) → slice_get seen.kept.views.views place ≡ Some view → view.columns ≡ width_of_all seen.shape.measures + 1
  view-columns place view at = All-found (λ (v : ViewMap). v.columns ≡ columns) seen.kept.views.views place view each at ∙ columns_are ∙ kept.views.columns_are

  -- what the list of a view says is what the state says of it
  pub record IsListed (place : ℕ) (list : List (List ℕ × TermList)) : Type 0 where
    pub entries : list ≡ view_at weigh state place
    pub regions : All (λ entry. IsRegion state.dims entry.0) list

  abbrev terms : List ℕ → TermList
  terms = terms_in weigh seen

  view-depths : (place : ℕ) (view : ViewMap) → slice_get seen.kept.views.views place ≡ Some view → view_at weigh seen place ≡ entries_of terms (cut_regions seen.dims view.depths)
  view-depths place view at =
      let depths : slice_get seen.cuts place ≡ Some view.depths =
      ap (λ (cuts : List (List ℕ)). slice_get cuts place) (sym kept.views.cuts_are) ∙ slice_get-map (λ (v : ViewMap). v.depths) seen.kept.views.views place ∙ ap (option_map (λ (v : ViewMap). v.depths)) at in
      ap (λ found. option_map_or (λ depths. entries_of terms (cut_regions seen.dims depths)) found []) depths

  listed-view : (place : ℕ) (list : List (List ℕ × TermList)) (view : ViewMap) → slice_get seen.kept.views.views place ≡ Some view → list ≡ listed seen.dims view → All HasTerms list → IsListed place list
  listed-view place list view at is whole =
      let of = All-found (IsViewOfFacts seen.dims (rows_in weigh seen)) seen.kept.views.views place view kept.views.answers at in
      let over = All-found (IsViewOf seen.dims) seen.kept.views.views place view kept.views.over at in
      let entries : list ≡ entries_of terms (cut_regions seen.dims view.depths) =
      is ∙ listed-in_order seen.dims (rows_in weigh seen) view of trees over (subst (All HasTerms) is whole)
      ∙ ap (λ terms. entries_of terms (cut_regions seen.dims view.depths)) (terms-wide weigh seen view.columns (view-columns place view at)) in
      record {
        entries = entries ∙ sym (view-depths place view at) ∙ ap (λ (s : StateValue P). view_at weigh s place) same;
        regions = subst (λ (s : StateValue P). All (λ (entry : List ℕ × TermList). IsRegion s.dims entry.0) list) same
            (subst (All (λ (entry : List ℕ × TermList). IsRegion seen.dims entry.0)) (sym entries) (entries-regions terms seen.dims view.depths trees over.depths));
      }

  -- a view of the state is one of those that are kept
  pub view-within : (place : ℕ) → place < length state.cuts → place < length seen.kept.views.views
  view-within place within =
      omega (arith, within, ap (λ (s : StateValue P). length s.cuts) same, ap length kept.views.cuts_are, length-map seen.kept.views.views (λ (v : ViewMap). v.depths))

  pub listed-seen : (place : ℕ) (list : List (List ℕ × TermList)) → place < length state.cuts → IfSome (slice_get seen.kept.views.views place) (λ view. list ≡ listed seen.dims view) → All HasTerms list → IsListed place list
  listed-seen place list within is whole = by (slice_get seen.kept.views.views place) refl is
    where
      by : (found : Option ViewMap) → slice_get seen.kept.views.views place ≡ found → IfSome found (λ view. list ≡ listed seen.dims view) → IsListed place list
      by None at is =
          let view : ViewMap = record { columns = 0; depths = []; entries = [] } in
          let there = slice_get-get_or seen.kept.views.views place view (view-within place within) in
          absurd (grind (arith, there, at))
      by (Some view) at is = listed-view place list view at is whole

  pub listed-ok : {E : Type 0} (place : ℕ) (found : Result (List (List ℕ × TermList)) E) → place < length state.cuts → IfOk found (λ list. IfSome (slice_get seen.kept.views.views place) (λ view. list ≡ listed seen.dims view))
      → IfOk found (All HasTerms) → IfOk found (IsListed place)
  listed-ok place (Ok list) within is whole = listed-seen place list within is whole
  listed-ok place (Err e) within is whole = tt
