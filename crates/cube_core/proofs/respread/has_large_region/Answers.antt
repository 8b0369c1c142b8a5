-- Each fact is large, or is passed over.
use Rattle.std.proofs.Common.{ap, sym, ◌∙◌}
use Rattle.std.specs.Prelude.{not}
use Rattle.region_algebra.specs.Space.{IsRegion}
use Rattle.edit_plan.proofs.AllRefreshed.{left-first}
use Rattle.cube_core.specs.Growth.{has_large_region}
use Rattle.cube_core.proofs.Respreading.{large-found, large-passed, told-none}
use Rattle.cube_core.proofs.respread.has_large_region.Goals as goal

pub check_region-requires : goal.check_region-requires
check_region-requires c = (left-first (λ f. IsRegion c.args.space.now f.region) _ _ _ c.loop-fact.invariant.regions c.in-Some.ensures.steps).0

pub returns-then-is_err : goal.returns-then-is_err
returns-then-is_err c =
    large-found c.args.space.now c.args.facts.now.facts _ _ _ c.loop-fact.invariant.same c.in-Some.ensures.steps
    (told-none c.check_region.result _ c.check_region.ensures ∙ ap not (sym c.is_err.ensures.value ∙ c.if-is_err.true))

pub loop-fact-preserved : goal.loop-fact-preserved
loop-fact-preserved c = record {
  regions = (left-first (λ f. IsRegion c.args.space.now f.region) _ _ _ c.loop-fact.invariant.regions c.in-Some.ensures.steps).1;
  same =
      large-passed c.args.space.now c.args.facts.now.facts _ _ _ c.loop-fact.invariant.same c.in-Some.ensures.steps
      (told-none c.check_region.result _ c.check_region.ensures ∙ ap not (sym c.is_err.ensures.value ∙ c.if-is_err.false));
}

pub returns : goal.returns
returns c = sym (ap (λ left. has_large_region c.args.space.now left) c.in-None.ensures.steps.0) ∙ c.loop-fact.invariant.same
