-- The views are emptied, and nothing else is kept where there is no fact.
use Rattle.std.proofs.Common.{ap, map, ◌+◌, ◌∙◌, sym}
use Rattle.view_store.specs.Views.{ViewMap, ViewMaps}
use Rattle.fact_records.specs.Shape.{ShapeValue, width_of_all}
use Rattle.cube_state.proofs.Installing.{IsState-fresh, cuts-seen, dims-seen}
use Rattle.cube_state.proofs.Knowing.{KnowsPatterns-none}
use Rattle.fact_indexes.proofs.ViewsKept.{cuts-emptied}
use Rattle.cube_state.proofs.state.State.fresh.Goals as goal

pub invariant_of-result : goal.invariant_of-result
invariant_of-result g c = record {
  state = IsState-fresh _ _ _ c.dims.ensures.trees _ _ _ _ _ _ _ _ c.self.invariant.state.views.over (c.self.invariant.state.views.columns_are ∙ ap (λ (shape : ShapeValue). width_of_all shape.measures + 1) (sym c.in_ok-shape.ensures)) (c.requires ∙ sym (dims-seen _ _ c.self.view_is))
      c.new.ensures.empty c.new-2.ensures c.new-3.ensures c.new-5.ensures c.in_ok-views.ensures;
  known = KnowsPatterns-none _ _ _ c.new.ensures.empty;
}

pub returns-clause-cuts : goal.returns-clause-cuts
returns-clause-cuts g c =
    ap (λ (views : ViewMaps). map (λ (view : ViewMap). view.depths) views.views) c.in_ok-views.ensures ∙ cuts-emptied c.self.inside.views.views ∙ cuts-seen _ _ c.self.view_is
