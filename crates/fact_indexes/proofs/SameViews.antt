-- Views with the same content are views of the same facts.
use Rattle.std.proofs.Common.{◌≡◌, ℕ, ◌-◌, List, length, map, ap, sym, ◌∙◌, unwrap_or}
use Rattle.std.specs.Prelude.{is_some}
use Rattle.cube_model.specs.Allocation.{ExtendedFact}
use Rattle.cube_model.specs.Answer.{answer}
use Rattle.cube_model.specs.Tree.{Dimension}
use Rattle.group_sum.specs.Terms.{TermList}
use Rattle.staged_map.specs.Staged.{value_at}
use Rattle.view_store.specs.Changes.{HaveSameViews, IsSameView}
use Rattle.view_store.specs.Facts.{IsViewOfFacts}
use Rattle.view_store.specs.Views.{IsViewOf, ViewMap, ViewMaps, entry_at, is_in_view, no_terms, region_at}
use Rattle.fact_indexes.specs.Kept.{AreViewsOfFacts}
use Rattle.fact_indexes.proofs.AlongViews.{All-along, depths-along}

-- the entries of views that have the same content are the same
entry-same : (old new : ViewMap) → IsSameView old new → (code : ℕ) → entry_at new code ≡ entry_at old code
entry-same old new same code =
    ap (λ o. unwrap_or o (no_terms new.columns)) (same.values code) ∙ ap (λ n. unwrap_or (value_at old.entries code) (no_terms n)) same.columns

over-same : (dims : List Dimension) (old new : ViewMap) → IsSameView old new → IsViewOf dims old → IsViewOf dims new
over-same dims old new same over = record {
  depths = ap length same.depths ∙ over.depths;
  regions = λ code some. over.regions code (ap is_some (sym (same.values code)) ∙ some);
}

of_facts-same : (dims : List Dimension) (facts : List ExtendedFact) (old new : ViewMap) → IsSameView old new → IsViewOfFacts dims facts old → IsViewOfFacts dims facts new
of_facts-same dims facts old new same is = record {
  columns = λ code. ap (λ (list : TermList). list.columns) (entry-same old new same code) ∙ is.columns code ∙ sym same.columns;
  answers = λ code inside.
      ap (λ (list : TermList). list.terms) (entry-same old new same code)
      ∙ is.answers code (ap (λ (ds : List ℕ). is_in_view dims ds code) (sym same.depths) ∙ inside)
      ∙ ap (λ n. answer (n - 1) dims facts (region_at dims code)) (sym same.columns);
  others = λ code outside.
      ap (λ (list : TermList). list.terms) (entry-same old new same code) ∙ is.others code (ap (λ (ds : List ℕ). is_in_view dims ds code) (sym same.depths) ∙ outside);
}

-- the cuts stay
pub cuts-same : (old new : ViewMaps) → HaveSameViews old new → map (λ (view : ViewMap). view.depths) new.views ≡ map (λ (view : ViewMap). view.depths) old.views
cuts-same old new same = depths-along IsSameView (λ a b one. one.depths) old.views new.views same.views.count same.views.each

pub AreViewsOfFacts-same : (dims : List Dimension) (cuts : List (List ℕ)) (columns : ℕ) (facts : List ExtendedFact) (old new : ViewMaps) → HaveSameViews old new → AreViewsOfFacts dims cuts columns facts old → AreViewsOfFacts dims cuts columns facts new
AreViewsOfFacts-same dims cuts columns facts old new same are = record {
  columns_are = same.columns ∙ are.columns_are;
  cuts_are = cuts-same old new same ∙ are.cuts_are;
  over = All-along IsSameView (IsViewOf dims) (IsViewOf dims) (over-same dims) old.views new.views same.views.count same.views.each are.over;
  answers = All-along IsSameView (IsViewOfFacts dims facts) (IsViewOfFacts dims facts) (of_facts-same dims facts) old.views new.views same.views.count same.views.each are.answers;
}
