-- What a plan does, also once its lists were taken out, and what one of an edit does.
use Rattle.std.proofs.Common.{◌≡◌, ℕ, List, ◌++◌, ◌∷◌, [], refl, ap, sym, ◌∙◌, subst}
use Rattle.std.specs.Prelude.{IfSome, Option, Some, None, option_map}
use Rattle.std.specs.Option.{option_and_then}
use Rattle.cube_model.specs.declared.edit.Edit.{Edit}
use Rattle.cube_model.specs.declared.statistic.CellStat.{CellStat}
use Rattle.cube_model.specs.Facts.{after}
use Rattle.edit_plan.specs.Plan.{IsPlanFor, PlanValue, edit_in, facts_after, lists_for, withdrawn_in}
use Rattle.edit_plan.specs.declared.plan_lists.Detail.{Detail}
use Rattle.edit_plan.specs.declared.plan_lists.Detail.TheVariants as plan_detail
use Rattle.edit_plan.specs.declared.plan_lists.PlanLists.{PlanLists}
use Rattle.fact_keeper.specs.declared.content.Batch.{Batch}
use Rattle.fact_keeper.specs.Batch.{apply_batch}
use Rattle.fact_keeper.specs.Keeper.{KeeperTold}
use Rattle.cube_state.specs.State.{HasFacts, HaveSameContent, StateValue, withdrawn}
use Rattle.edit_plan.specs.declared.plan_change.PlanChange.{PlanChange}
use Rattle.edit_plan.proofs.FactsLeft.{facts-after_edit}
use Rattle.schema_text.specs.Schema.{SchemaValue}
use Rattle.cube_core.specs.Cube.{edited}
use Rattle.cube_core.proofs.Stating.{cube_of}

-- without its lists it fits as before, and leaves the same facts
module _ {P : Type 0} (plan rest : PlanValue) (taken : rest ≡ record plan { lists = None }) where
  pub fits-still : (weigh : P → CellStat → ℕ) (state : StateValue P) → IsPlanFor weigh state plan → IsPlanFor weigh state rest
  fits-still weigh state fits = subst (IsPlanFor weigh state) (sym taken) fits

  pub leaves-still : (old new : StateValue P) → HasFacts (facts_after rest.change old.facts) old new → HasFacts (facts_after plan.change old.facts) old new
  leaves-still old new has = subst (λ (p : PlanValue). HasFacts (facts_after p.change old.facts) old new) taken has

module _ (change : PlanChange) (edit : Edit) (does : edit_in change ≡ Some edit) where
  -- what it removes is what the edit withdraws
  pub removes : (removed : Option ℕ) → removed ≡ withdrawn_in change → removed ≡ withdrawn edit
  removes removed is = is ∙ ap (option_and_then withdrawn) does

  -- and the cube is that after the edit
  pub sets-facts : {P : Type 0} (schema : SchemaValue) (before old new : StateValue P) → HaveSameContent before old → HasFacts (facts_after change old.facts) old new → cube_of schema new ≡ edited edit (cube_of schema before)
  sets-facts schema before old new same has =
      ap (λ policy. record { policy = policy; schema = schema; facts = new.facts }) (has.policy ∙ same.policy)
      ∙ ap (λ facts. record { policy = before.policy; schema = schema; facts = facts }) (has.facts ∙ facts-after_edit change edit old.facts does ∙ ap (after edit) same.facts)

-- What a keeper tells once the plan of an edit is carried out: the batch is applied and appended, also where no list was made, since the
-- keeper then tells neither content nor journal.
module _ (before after : KeeperTold) (refreshed : List ℕ) (batch : Batch) (lists : Option PlanLists) where
  pub content-carried : (detail : Detail) → lists ≡ lists_for detail refreshed batch → (detail ≡ plan_detail.Number → before.content ≡ None) → (lists ≡ None → after ≡ before)
      → IfSome lists (λ l. after.content ≡ option_map (apply_batch l.batch) before.content) → after.content ≡ option_map (apply_batch batch) before.content
  content-carried plan_detail.Number none tells untouched applied =
      ap (λ (told : KeeperTold). told.content) (untouched none) ∙ tells refl ∙ sym (ap (option_map (apply_batch batch)) (tells refl))
  content-carried plan_detail.Lists some tells untouched applied = subst (λ ls. IfSome ls (λ l. after.content ≡ option_map (apply_batch l.batch) before.content)) some applied

  pub journal-carried : (detail : Detail) → lists ≡ lists_for detail refreshed batch → (detail ≡ plan_detail.Number → before.journal ≡ None) → (lists ≡ None → after ≡ before)
      → IfSome lists (λ l. after.journal ≡ option_map (λ batches. batches ++ l.batch ∷ []) before.journal) → after.journal ≡ option_map (λ batches. batches ++ batch ∷ []) before.journal
  journal-carried plan_detail.Number none tells untouched appended =
      ap (λ (told : KeeperTold). told.journal) (untouched none) ∙ tells refl ∙ sym (ap (option_map (λ (batches : List Batch). batches ++ batch ∷ [])) (tells refl))
  journal-carried plan_detail.Lists some tells untouched appended = subst (λ ls. IfSome ls (λ l. after.journal ≡ option_map (λ batches. batches ++ l.batch ∷ []) before.journal)) some appended
