-- The answer of a view of a state's facts.
use Rattle.std.proofs.Common.{◌≡◌, ℕ, ◌+◌, ◌-◌, ◌*◌, ◌≤◌, Bool, true, false, List, [], ◌∷◌, refl, ap, sym, take, ◌∙◌, subst, arith}
use Rattle.std.specs.Prelude.{All, IfSome, filter, if◌then◌else◌, Option, Some, None}
use Rattle.std.specs.List.{find}
use Rattle.std.specs.Option.{option_map}
use Rattle.std.proofs.lemmas.List.Elements.{All-head, All-tail}
use Rattle.std.proofs.lemmas.Option.{none-some, same_Some}
use Rattle.cube_model.specs.declared.statistic.CellStat.{CellStat}
use Rattle.cube_model.specs.Allocation.{ExtendedFact}
use Rattle.cube_model.specs.Answer.{answer, count_of, merge_all}
use Rattle.cube_model.specs.Cells.{cells_of}
use Rattle.cube_model.specs.Limits.{MAX_VALUE, WIDE}
use Rattle.cube_model.specs.Tree.{IsTree}
use Rattle.cell_weight.specs.Stats.{IsStat}
use Rattle.fact_records.specs.Shape.{IsShape, width_of_all}
use Rattle.group_sum.specs.Terms.{TermList}
use Rattle.region_algebra.specs.Space.{IsRegion}
use Rattle.view_store.specs.Changes.{IsWithinWide}
use Rattle.view_store.specs.Facts.{IsViewOfFacts}
use Rattle.view_store.specs.Rolling.{FitsUnder, entries_under, is_below, rolled_up, serves, serving}
use Rattle.view_store.specs.Views.{ViewMap, codes_of, entry_at, is_in_view, region_at}
use Rattle.view_store.proofs.Answering.{answer-of_facts}
use Rattle.view_store.proofs.Shares.{count_of-answer, numerator_of-answer}
use Rattle.fact_indexes.specs.Kept.{IsState}
use Rattle.cube_state.specs.State.{StateValue, policy_in, rows_in, terms_in}
use Rattle.fact_indexes.proofs.FactBounds.{rows-small, rows-within}
use Rattle.cube_state.proofs.SmallTerms.{AreSmallTerms, merges-within, small-each, small-none}

-- what is found passes, and holds what all hold
pub find-all : {X : Type 0} (P : X → Type 0) (p : X → Bool) (xs : List X) → All P xs → IfSome (find p xs) (λ x. P x × (p x ≡ true))
find-all P p [] each = tt
find-all P p (x ∷ xs) each = by (p x) refl (find-all P p xs (All-tail P x xs each))
  where
    by : (b : Bool) → p x ≡ b → IfSome (find p xs) (λ y. P y × (p y ≡ true)) → IfSome (if b then Some x else find p xs) (λ y. P y × (p y ≡ true))
    by true is rest = (All-head P x xs each, is)
    by false is rest = rest

module _ {P : Type 0} (weigh : P → CellStat → ℕ) (state seen : StateValue P) (same : seen ≡ state) (kept : IsState (policy_in weigh seen) seen.shape seen.dims seen.cuts seen.facts seen.kept)
    (bound : (s : CellStat) → IsStat s → weigh seen.policy s ≤ 1 + s.count * MAX_VALUE) (is : IsShape seen.shape) (trees : All IsTree seen.dims)
    (columns : ℕ) (columns_are : columns ≡ seen.kept.views.columns) (each : All (λ view. view.columns ≡ columns) seen.kept.views.views) where
  abbrev width : ℕ
  width = width_of_all seen.shape.measures

  abbrev rows : List ExtendedFact
  rows = rows_in weigh seen

  -- an answer has small terms, within limits
  answer-small : (region : List ℕ) → AreSmallTerms width (answer width seen.dims rows region)
  answer-small region = record {
    small = λ d k lt.
        rw (numerator_of-answer width seen.dims rows region d k lt, count_of-answer width seen.dims rows region d)
        (rows-small (weigh seen.policy) bound seen.shape seen.dims seen.facts is trees kept.valid (cells_of seen.dims region) d k lt);
  }

  answer-within : (region : List ℕ) (d : ℕ) → MAX_VALUE * count_of (answer width seen.dims rows region) d ≤ WIDE
  answer-within region d =
      omega (arith, count_of-answer width seen.dims rows region d, rows-within (weigh seen.policy) bound seen.shape seen.dims seen.facts is trees kept.valid (cells_of seen.dims region) d)

  module _ (view : ViewMap) (of : IsViewOfFacts seen.dims rows view) (view_columns : view.columns ≡ width + 1) where
    entry-small : (code : ℕ) → AreSmallTerms (view.columns - 1) (entry_at view code).terms
    entry-small code = by (is_in_view seen.dims view.depths code) refl
      where
        values : view.columns - 1 ≡ width
        values = omega (arith, view_columns)

        by : (b : Bool) → is_in_view seen.dims view.depths code ≡ b → AreSmallTerms (view.columns - 1) (entry_at view code).terms
        by true inside = rw (of.answers code inside, values) (answer-small (region_at seen.dims code))
        by false outside = rw (of.others code outside) (small-none (view.columns - 1))

    -- the entries under a region that it serves merge within limits
    fits-under : (region : List ℕ) → IsRegion seen.dims region → serves seen.dims view.depths region ≡ true → FitsUnder seen.dims region view
    fits-under region named served n =
        let values : view.columns - 1 ≡ width = omega (arith, view_columns) in
        let whole : view.columns - 1 + 1 ≡ view.columns = omega (arith, view_columns) in
        subst (λ (c : ℕ). IsWithinWide c (merge_all (view.columns - 1) (take n (entries_under seen.dims view region)))) whole
        (merges-within (view.columns - 1) (entries_under seen.dims view region) (answer (view.columns - 1) seen.dims rows region)
        (small-each (view.columns - 1) (λ code. (entry_at view code).terms) (filter (is_below seen.dims region) (codes_of seen.dims view)) entry-small)
        (answer-of_facts seen.dims rows view region of trees named served)
        (λ d. rw values (answer-within region d)) n)

  -- of the first view that serves a region
  pub record IsServing (region : List ℕ) (view : ViewMap) : Type 0 where
    pub of : IsViewOfFacts seen.dims rows view
    pub wide : view.columns ≡ width + 1
    pub serves_it : serves seen.dims view.depths region ≡ true

  is-serving : (region : List ℕ) → IfSome (serving seen.dims seen.kept.views region) (IsServing region)
  is-serving region =
      both (serving seen.dims seen.kept.views region)
      (find-all (IsViewOfFacts seen.dims rows) (λ view. serves seen.dims view.depths region) seen.kept.views.views kept.views.answers)
      (find-all (λ view. view.columns ≡ columns) (λ view. serves seen.dims view.depths region) seen.kept.views.views each)
    where
      both : (found : Option ViewMap) → IfSome found (λ view. IsViewOfFacts seen.dims rows view × (serves seen.dims view.depths region ≡ true)) → IfSome found (λ view. (view.columns ≡ columns) × (serves seen.dims view.depths region ≡ true))
          → IfSome found (IsServing region)
      both None first second = tt
      both (Some view) first second = record { of = first.0; wide = second.0 ∙ columns_are ∙ kept.views.columns_are; serves_it = first.1 }

  module _ (region : List ℕ) (named : IsRegion state.dims region) where
    named_here : IsRegion seen.dims region
    named_here = subst (λ (s : StateValue P). IsRegion s.dims region) (sym same) named

    pub serving-fits : IfSome (serving seen.dims seen.kept.views region) (FitsUnder seen.dims region)
    serving-fits = by (serving seen.dims seen.kept.views region) (is-serving region)
      where
        by : (found : Option ViewMap) → IfSome found (IsServing region) → IfSome found (FitsUnder seen.dims region)
        by None is = tt
        by (Some view) is = fits-under view is.of is.wide region named_here is.serves_it

    -- its entries merge to the answer
    answered-view : (list : TermList) → Some list.terms ≡ option_map (λ view. rolled_up seen.dims view region) (serving seen.dims seen.kept.views region) → list.columns ≡ seen.kept.views.columns → list ≡ terms_in weigh state region
    answered-view list is wide = by (serving seen.dims seen.kept.views region) (is-serving region) is ∙ ap (λ (s : StateValue P). terms_in weigh s region) same
      where
        by : (found : Option ViewMap) → IfSome found (IsServing region) → Some list.terms ≡ option_map (λ view. rolled_up seen.dims view region) found → list ≡ terms_in weigh seen region
        by None serving is = absurd (none-some list.terms (sym is))
        by (Some view) serving is =
            let terms : list.terms ≡ answer width seen.dims rows region =
            same_Some list.terms (rolled_up seen.dims view region) is ∙ answer-of_facts seen.dims rows view region serving.of trees named_here serving.serves_it
            ∙ ap (λ n. answer n seen.dims rows region) (omega (arith, serving.wide)) in
            let columns : list.columns ≡ width + 1 = wide ∙ kept.views.columns_are in
            rw (← columns, ← terms) refl

    pub answered-found : (found : Option TermList) (list : TermList) → found ≡ Some list → option_map (λ list. list.terms) found ≡ option_map (λ view. rolled_up seen.dims view region) (serving seen.dims seen.kept.views region)
        → IfSome found (λ list. list.columns ≡ seen.kept.views.columns) → list ≡ terms_in weigh state region
    answered-found found list at is wide =
        answered-view list (sym (ap (option_map (λ (list : TermList). list.terms)) at) ∙ is) (subst (λ (o : Option TermList). IfSome o (λ list. list.columns ≡ seen.kept.views.columns)) at wide)
