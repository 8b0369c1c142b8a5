-- The facts that are kept are those of the state with the new ones.
use Rattle.std.proofs.Common.{ap, subst, sym, ◌∙◌}
use Rattle.cube_state.specs.State.{HasFacts}
use Rattle.fact_indexes.specs.declared.kept.FactsKept.{FactsKept}
use Rattle.edit_plan.specs.Plan.{PlanValue}
use Rattle.edit_plan.proofs.FactsLeft.{leaves-new}
use Rattle.edit_plan.proofs.installing.install.Goals as goal

pub returns-in-All : goal.returns-in-All
returns-in-All g c = leaves-new g.P.WeightPolicy.weigh _ _ c.args.plan.change _ _ (sym (ap (λ (p : PlanValue). p.change) c.plan.view_is) ∙ c.in-All.is) c.requires (subst (λ (all : FactsKept). HasFacts all.facts.facts c.args.state.now c.replace.new.self) c.into_inner.ensures c.replace.ensures)
