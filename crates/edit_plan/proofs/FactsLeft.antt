-- The facts that a plan leaves.
use Rattle.std.proofs.Common.{◌≡◌, ℕ, List, ap, subst, sym}
use Rattle.std.specs.Global.{Box}
use Rattle.std.specs.Prelude.{Some}
use Rattle.cube_model.specs.declared.edit.Edit.{Edit}
use Rattle.cube_model.specs.declared.edit.Fact.{Fact}
use Rattle.cube_model.specs.declared.statistic.CellStat.{CellStat}
use Rattle.cube_model.specs.Facts.{after}
use Rattle.cube_state.specs.State.{HasFacts, StateValue}
use Rattle.fact_indexes.specs.declared.kept.FactsKept.{FactsKept}
use Rattle.edit_plan.specs.Plan.{IsChangeFor, edit_in, facts_after}
use Rattle.edit_plan.specs.declared.plan_change.PlanChange.{PlanChange}
use Rattle.edit_plan.specs.declared.plan_change.PlanChange.TheVariants as plan_change

-- a plan of an edit leaves the facts after it
pub facts-after_edit : (change : PlanChange) (edit : Edit) (facts : List Fact) → edit_in change ≡ Some edit → facts_after change facts ≡ after edit facts
facts-after_edit (plan_change.Edit its sets rows) edit facts is = let same : its ≡ edit = cc in ap (λ e. after e facts) same
facts-after_edit (plan_change.All new all) edit facts is = cc

-- a state that has the facts which a plan of new ones keeps has those that it leaves
pub leaves-new : {P : Type 0} (weigh : P → CellStat → ℕ) (old new : StateValue P) (change : PlanChange) (put : _) (all : Box FactsKept) → change ≡ plan_change.All put all → IsChangeFor weigh old change → HasFacts all.value.facts.facts old new
    → HasFacts (facts_after change old.facts) old new
leaves-new weigh old new change put all is fits has =
    subst (λ c. HasFacts (facts_after c old.facts) old new) (sym is)
    (subst (λ facts. HasFacts facts old new) (subst (IsChangeFor weigh old) is fits).facts has)
