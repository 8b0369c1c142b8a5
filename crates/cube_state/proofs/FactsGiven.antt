-- A state of given facts: its views begin without entries, and what is kept is what the facts make it.
use Rattle.std.proofs.Common.{◌≡◌, ℕ, ◌+◌, ◌≤◌, List, [], length, map, refl, ap, sym, ◌∙◌, subst, arith}
use Rattle.std.specs.Prelude.{All}
use Rattle.std.proofs.lemmas.List.Elements.{All-map}
use Rattle.cube_model.specs.declared.edit.Fact.{Fact}
use Rattle.cube_model.specs.Allocation.{Policy, extended, row_count}
use Rattle.cube_model.specs.Limits.{MAX_ROWS}
use Rattle.cube_model.specs.Tree.{Dimension}
use Rattle.region_algebra.specs.Space.{IsRegion}
use Rattle.region_algebra.specs.declared.view_def.ViewDef.{ViewDef}
use Rattle.fact_records.specs.Shape.{ShapeValue, width_of_all}
use Rattle.fact_records.specs.Valid.{AreValid}
use Rattle.fact_indexes.specs.Anew.{AreEmpty, cuts_of, kept_of}
use Rattle.fact_indexes.specs.Kept.{IsState, Kept}
use Rattle.fact_indexes.specs.declared.kept.FactsKept.{FactsKept}
use Rattle.fact_indexes.proofs.ValidFacts.{valid-regions}
use Rattle.fact_indexes.proofs.ViewsKept.{AreViewsOfFacts-none, depths-of_defs}
use Rattle.view_store.specs.Views.{ViewMap, ViewMaps, view_of}
use Rattle.cube_state.proofs.Installing.{replaced}

-- the views of definitions are empty
pub AreEmpty-defs : (shape : ShapeValue) (dims : List Dimension) (columns : ℕ) (defs : List ViewDef) (views : ViewMaps) → All (λ (def : ViewDef). length def.depths ≡ length dims) defs → columns ≡ 1 + width_of_all shape.measures
    → views ≡ record { columns = columns; views = map (view_of columns) defs } → AreEmpty shape dims views
AreEmpty-defs shape dims columns defs views cut_each width are =
    let turned : columns ≡ width_of_all shape.measures + 1 = omega (arith, width) in
    subst (AreEmpty shape dims) (sym are) (record {
      columns = turned;
      each = All-map (λ (view : ViewMap). view.columns ≡ width_of_all shape.measures + 1) (view_of columns) defs (λ k d within. turned);
      over = (AreViewsOfFacts-none dims columns defs cut_each).over;
      none = All-map (λ (view : ViewMap). view.entries ≡ []) (view_of columns) defs (λ k d within. refl);
    })

-- facts that are the valid ones lie in the space
pub regions-kept : (shape : ShapeValue) (dims : List Dimension) (facts all : List Fact) → all ≡ facts → AreValid shape dims facts → All (λ f. IsRegion dims f.region) all
regions-kept shape dims facts all are valid = subst (λ (fs : List Fact). All (λ f. IsRegion dims f.region) fs) (sym are) (valid-regions shape dims facts valid)

module _ (policy : Policy) (shape : ShapeValue) (dims : List Dimension) (facts : List Fact) (all : FactsKept) where
  -- what is kept of the facts is that of the state
  pub state-kept : (cuts : List (List ℕ)) → all.facts.facts ≡ facts → IsState policy shape dims cuts facts (kept_of all)
      → IsState policy shape dims (map (λ (view : ViewMap). view.depths) all.views.views) all.facts.facts (kept_of all)
  state-kept cuts are is =
      subst (λ fs. IsState policy shape dims (map (λ (view : ViewMap). view.depths) all.views.views) fs (kept_of all)) (sym are) (replaced policy shape dims cuts facts (kept_of all) is)

module _ (policy : Policy) (shape : ShapeValue) (dims : List Dimension) (facts : List Fact) (kept : Kept) where
  -- its cuts are those of the definitions
  pub cuts-kept : (columns : ℕ) (defs : List ViewDef) (views : ViewMaps) → views ≡ record { columns = columns; views = map (view_of columns) defs } → IsState policy shape dims (cuts_of views) facts kept
      → map (λ (view : ViewMap). view.depths) kept.views.views ≡ map (λ (def : ViewDef). def.depths) defs
  cuts-kept columns defs views are is = is.views.cuts_are ∙ ap cuts_of are ∙ depths-of_defs columns defs

  -- and there are not too many rows
  pub few-kept : (cuts : List (List ℕ)) → IsState policy shape dims cuts facts kept → row_count (extended policy dims facts) ≤ MAX_ROWS
  few-kept cuts is = omega (arith, is.rows, is.few_rows)
