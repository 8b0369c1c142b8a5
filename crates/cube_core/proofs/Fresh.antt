-- A state without facts over other dimensions, in which the facts of another are all put.
use Rattle.std.proofs.Common.{◌≡◌, ℕ, ◌<◌, ◌≤◌, Bool, true, false, List, [], ◌∷◌, refl, ap, sym, ◌∙◌, subst, arith}
use Rattle.std.specs.Prelude.{All, Option, Some, None, is_none, nat_lt, not, ◌||◌}
use Rattle.std.proofs.lemmas.Bool.Decides.{nat_tests}
use Rattle.std.proofs.lemmas.List.Elements.{All-cons, All-head, All-nil, All-tail}
use Rattle.cube_base.specs.declared.code.Code.{Code}
use Rattle.cube_base.specs.declared.code.Code.TheVariants as code
use Rattle.cube_model.specs.declared.edit.Fact.{Fact}
use Rattle.cube_model.specs.declared.statistic.CellStat.{CellStat}
use Rattle.cube_model.specs.Allocation.{Policy, extended, row_count}
use Rattle.cube_model.specs.Limits.{MAX_ROWS}
use Rattle.cube_model.specs.Tree.{Dimension}
use Rattle.cube_state.specs.State.{HasFacts, StateValue, policy_in}
use Rattle.edit_plan.specs.Whole.{IsAllFaultOf, facts_with_new, rows_with_new}
use Rattle.edit_plan.specs.declared.fault.PlanAllFault.{PlanAllFault}
use Rattle.edit_plan.specs.declared.fault.PlanAllFault.TheVariants as plan_all_fault
use Rattle.fact_records.specs.Accepted.{region_refusal}
use Rattle.fact_records.specs.New.{AreNew, put_all}
use Rattle.fact_records.specs.Shape.{ShapeValue, policy_over}
use Rattle.fact_records.specs.Valid.{AreValid, IsValid}
use Rattle.cube_core.specs.Growth.{has_large_region}
use Rattle.cube_core.specs.Respread.{IsRespreadFault, IsStateOver, KeepRegions, facts_refusal, fault_of_plan_all}
use Rattle.cube_core.proofs.Respreading.{new-anew, put-anew}

-- where no fact is too large, their rows alone may be too many
module _ (policy : Policy) (later : List Dimension) (facts : List Fact) (small : has_large_region later facts ≡ false) where
  refused-rows : MAX_ROWS < row_count (extended policy later facts) → facts_refusal policy later facts ≡ Some code.Rows
  refused-rows over = let many : nat_lt MAX_ROWS (row_count (extended policy later facts)) ≡ true = grind (arith, nat_tests) in rw (small, many) refl

  none-refused : row_count (extended policy later facts) ≤ MAX_ROWS → facts_refusal policy later facts ≡ None
  none-refused under = let few : nat_lt MAX_ROWS (row_count (extended policy later facts)) ≡ false = grind (arith, nat_tests) in rw (small, few) refl

-- facts that are valid over dimensions are so over others that keep the regions, where none is too large there
module _ (shape : ShapeValue) (dims later : List Dimension) (keep : KeepRegions dims later) where
  small-first : (refusal : Option Code) (rest : Bool) → (not (is_none refusal) || rest) ≡ false → (refusal ≡ None) × (rest ≡ false)
  small-first None rest small = (refl, small)
  small-first (Some why) rest small = cc

  pub valid-over : (facts : List Fact) → has_large_region later facts ≡ false → All (IsValid shape dims) facts → All (IsValid shape later) facts
  valid-over [] small valid = All-nil (IsValid shape later)
  valid-over (fact ∷ facts) small valid =
      let here = All-head (IsValid shape dims) fact facts valid in
      let parts = small-first (region_refusal later fact.region) (has_large_region later facts) small in
      let one : IsValid shape later fact = record {
        accepted = record { placed = record { id = here.accepted.placed.id; region = keep.regions fact.region here.accepted.placed.region }; values = here.accepted.values };
        size = parts.0;
      } in
      All-cons (IsValid shape later) fact facts one (valid-over facts parts.1 (All-tail (IsValid shape dims) fact facts valid))

-- a state is another's over dimensions, but without facts
pub record IsFresh {P : Type 0} (later : List Dimension) (state fresh : StateValue P) : Type 0 where
  pub policy : fresh.policy ≡ state.policy
  pub dims : fresh.dims ≡ later
  pub shape : fresh.shape ≡ state.shape
  pub cuts : fresh.cuts ≡ state.cuts
  pub facts : fresh.facts ≡ []

module _ {P : Type 0} (weigh : P → CellStat → ℕ) (later : List Dimension) (state fresh : StateValue P) (is : IsFresh later state fresh) (valid : AreValid state.shape state.dims state.facts) (run : List Fact) (all : run ≡ state.facts) where
  facts-same : facts_with_new fresh run ≡ state.facts
  facts-same = ap (put_all run) is.facts ∙ ap (λ fs. put_all fs []) all ∙ put-anew state.facts valid.ascending

  policy-same : policy_in weigh fresh ≡ policy_in weigh state
  policy-same = ap (λ p. policy_over (weigh p) fresh.shape) is.policy ∙ ap (policy_over (weigh state.policy)) is.shape

  rows-same : row_count (rows_with_new weigh fresh run) ≡ row_count (extended (policy_in weigh state) later state.facts)
  rows-same =
      ap (λ fs. row_count (extended (policy_in weigh fresh) fresh.dims fs)) facts-same
      ∙ ap (λ dims. row_count (extended (policy_in weigh fresh) dims state.facts)) is.dims
      ∙ ap (λ p. row_count (extended p later state.facts)) policy-same

  module _ (small : has_large_region later state.facts ≡ false) where
    -- the facts are new to it
    pub new-over : KeepRegions state.dims later → AreNew fresh.shape fresh.dims fresh.facts run
    new-over keep =
        let over = new-anew state.facts valid.ascending state.shape later valid.few (valid-over state.shape state.dims later keep state.facts small valid.each) in
        subst (λ shape. AreNew shape fresh.dims fresh.facts run) (sym is.shape)
        (subst (λ dims. AreNew state.shape dims fresh.facts run) (sym is.dims)
        (subst (λ fs. AreNew state.shape later fs run) (sym is.facts)
        (subst (AreNew state.shape later []) (sym all) over)))

    -- and are accepted, or have too many rows
    pub few-told : row_count (rows_with_new weigh fresh run) ≤ MAX_ROWS → facts_refusal (policy_in weigh state) later state.facts ≡ None
    few-told few = none-refused (policy_in weigh state) later state.facts small (subst (λ n. n ≤ MAX_ROWS) rows-same few)

    pub fault-told : (fault : PlanAllFault) → IsAllFaultOf weigh fresh run fault → IsRespreadFault weigh state later (fault_of_plan_all fault)
    fault-told (plan_all_fault.Rows would) told =
        let count : would ≡ row_count (extended (policy_in weigh state) later state.facts) = told.0 ∙ rows-same in
        (refused-rows (policy_in weigh state) later state.facts small (subst (λ n. MAX_ROWS < n) count told.1), count)
    fault-told plan_all_fault.Memory told = tt

  -- with them it is the other over the dimensions
  pub over-told : (leaves : List Fact) (new : StateValue P) → leaves ≡ facts_with_new fresh run → HasFacts leaves fresh new → IsStateOver later state new
  over-told leaves new leaves_are has = record {
    policy = has.policy ∙ is.policy;
    dims = has.dims ∙ is.dims;
    shape = has.shape ∙ is.shape;
    cuts = has.cuts ∙ is.cuts;
    facts = has.facts ∙ leaves_are ∙ facts-same;
  }
