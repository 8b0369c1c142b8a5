-- A fact more is told.
use Rattle.std.specs.Prelude.{not}
use Rattle.cube_model.specs.Facts.{has_id}
use Rattle.region_algebra.specs.Space.{IsRegion}
use Rattle.edit_plan.specs.Plan.{kept_fact}
use Rattle.edit_plan.proofs.AllRefreshed.{gathered-next, left-first}
use Rattle.edit_plan.proofs.whole.new_among.Goals as goal

pub loop-fact-preserved : goal.loop-fact-preserved
loop-fact-preserved g c = record {
  kept = gathered-next (λ f. not (has_id f.id c.args.state.now.facts)) kept_fact _ _ _ _ _ _ c.loop-fact.invariant.kept c.in-Some.ensures.steps c.in_ok-keep_new.ensures;
  each = (left-first (λ f. IsRegion c.args.state.now.dims f.region) _ _ _ c.loop-fact.invariant.each c.in-Some.ensures.steps).1;
}
