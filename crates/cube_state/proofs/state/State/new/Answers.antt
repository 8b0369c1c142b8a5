-- Nothing is kept where there is no fact, but views without entries.
use Rattle.std.proofs.Common.{◌∙◌, ap, map}
use Rattle.view_store.specs.Views.{ViewMap, ViewMaps}
use Rattle.cube_state.proofs.Installing.{IsState-empty}
use Rattle.cube_state.proofs.Knowing.{KnowsPatterns-none}
use Rattle.fact_indexes.proofs.ViewsKept.{depths-of_defs}
use Rattle.cube_state.proofs.state.State.new.Goals as goal

pub invariant_of-result : goal.invariant_of-result
invariant_of-result g c = record {
  state = IsState-empty _ _ _ c.dims.ensures.trees _ _ _ _ _ _ c.args.defs.now c.requires _ c.new-2.ensures.empty c.new-3.ensures c.new-4.ensures c.new-6.ensures c.in_ok-views.ensures c.columns.ensures.columns;
  known = KnowsPatterns-none _ _ _ c.new-2.ensures.empty;
}

pub returns-clause-cuts : goal.returns-clause-cuts
returns-clause-cuts g c = ap (λ (views : ViewMaps). map (λ (view : ViewMap). view.depths) views.views) c.in_ok-views.ensures ∙ depths-of_defs _ c.args.defs.now
