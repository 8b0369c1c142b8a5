-- Views without entries are the views of no facts, and what changes make of them are the views of the facts that these put.
use Rattle.std.proofs.Common.{◌≡◌, ℕ, ◌+◌, List, [], refl, ap, ◌∙◌}
use Rattle.std.specs.Prelude.{All}
use Rattle.std.proofs.lemmas.List.Elements.{All-weaker}
use Rattle.cube_model.specs.Allocation.{ExtendedFact}
use Rattle.cube_model.specs.Answer.{answer}
use Rattle.cube_model.specs.Tree.{Dimension}
use Rattle.group_sum.specs.Terms.{TermList}
use Rattle.staged_map.specs.Staged.{Places}
use Rattle.fact_records.specs.Shape.{ShapeValue, width_of_all}
use Rattle.view_store.specs.declared.change.ViewChange.{ViewChange}
use Rattle.view_store.specs.Changes.{AreAfter, HaveSameViews, facts_put, facts_taken_away}
use Rattle.view_store.specs.Facts.{FollowBy, IsViewOfFacts}
use Rattle.view_store.specs.Views.{ViewMap, ViewMaps, held_at}
use Rattle.fact_indexes.specs.Anew.{AreEmpty, cuts_of}
use Rattle.fact_indexes.specs.Kept.{AreViewsOfFacts}
use Rattle.fact_indexes.proofs.SameViews.{AreViewsOfFacts-same, cuts-same}
use Rattle.fact_indexes.proofs.ViewsKept.{AreViewsOfFacts-after, cuts-after}

-- a view without entries is that of no facts
pub view-none : (dims : List Dimension) (view : ViewMap) → view.entries ≡ [] → IsViewOfFacts dims [] view
unfolding answer
view-none dims view none = record {
  columns = λ code. ap (λ (entries : Places TermList). (held_at view.columns entries code).columns) none;
  answers = λ code inside. ap (λ (entries : Places TermList). (held_at view.columns entries code).terms) none;
  others = λ code outside. ap (λ (entries : Places TermList). (held_at view.columns entries code).terms) none;
}

module _ (shape : ShapeValue) (dims : List Dimension) (empty : ViewMaps) (are : AreEmpty shape dims empty) where
  pub answers-none : All (IsViewOfFacts dims []) empty.views
  answers-none = All-weaker (λ (view : ViewMap). view.entries ≡ []) (IsViewOfFacts dims []) (λ view none. view-none dims view none) empty.views are.none

  views-none : AreViewsOfFacts dims (cuts_of empty) (width_of_all shape.measures + 1) [] empty
  views-none = record { columns_are = are.columns; cuts_are = refl; over = are.over; answers = answers-none }

  -- changes staged and installed make them the views of the facts that these put
  pub views-put : (staged new : ViewMaps) (changes : List ViewChange) (facts : List ExtendedFact) → HaveSameViews empty staged → AreAfter dims changes staged new → FollowBy [] (facts_taken_away changes) (facts_put changes) facts
      → AreViewsOfFacts dims (cuts_of empty) (width_of_all shape.measures + 1) facts new
  views-put staged new changes facts same after follow =
      let columns : ℕ = width_of_all shape.measures + 1 in
      let was = AreViewsOfFacts-same dims (cuts_of empty) columns [] empty staged same views-none in
      let made = AreViewsOfFacts-after dims changes (cuts_of empty) columns [] facts staged new follow after was in
      record {
        columns_are = made.columns_are;
        cuts_are = cuts-after dims changes staged.views new.views after.count after.each ∙ cuts-same empty staged same;
        over = made.over;
        answers = made.answers;
      }
