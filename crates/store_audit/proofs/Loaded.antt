-- Rows that are others than those of a content's facts, said of the content.
use Rattle.std.proofs.Common.{◌≡◌, ℕ, ◌≤◌, List, map, ap, ◌∙◌, subst}
use Rattle.cube_model.specs.declared.edit.Fact.{Fact}
use Rattle.cube_model.specs.declared.statistic.CellStat.{CellStat}
use Rattle.cube_model.specs.Allocation.{Policy, extended, row_count}
use Rattle.cube_model.specs.Limits.{MAX_ROWS}
use Rattle.cube_model.specs.Tree.{Dimension}
use Rattle.fact_keeper.specs.declared.content.KeptFact.{KeptFact}
use Rattle.fact_keeper.specs.declared.content.KeptRows.{KeptRows}
use Rattle.fact_keeper.specs.declared.content.Stored.{Stored}
use Rattle.fact_records.specs.Shape.{ShapeValue, policy_over}
use Rattle.edit_plan.specs.Plan.{kept_rows}
use Rattle.cube_state.specs.State.{StateValue, rows_in}
use Rattle.store_audit.specs.Loading.{IsRowsFault}
use Rattle.store_audit.specs.Sound.{AreGood, IsLoadFault, fact_told, facts_told, rows_anew, rows_counted}
use Rattle.store_audit.specs.declared.finding.Finding.TheVariants as finding
use Rattle.store_audit.specs.declared.finding.LoadFault.{LoadFault}
use Rattle.store_audit.specs.declared.finding.LoadFault.TheVariants as load_fault

module _ (policy : Policy) (shape : ShapeValue) (dims : List Dimension) (content : Stored) where
  row-fault : AreGood shape dims content.facts → rows_counted policy dims content ≤ MAX_ROWS → (fault : LoadFault) → IsRowsFault content.rows (rows_anew policy dims content) fault → IsLoadFault policy shape dims content fault
  row-fault good few load_fault.Memory is = tt
  row-fault good few (load_fault.Bad (finding.Schema line why)) is = is
  row-fault good few (load_fault.Bad (finding.Fact place id why)) is = absurd is
  row-fault good few (load_fault.Bad (finding.TooManyRows would)) is = absurd is
  row-fault good few (load_fault.Bad (finding.Rows place here there)) is = record { good = good; few = few; kept_is = is.here_is; anew_is = is.there_is; different = is.different; first = is.first }

  -- the same of lists that are those of the content
  pub rows-fault : (kept : List KeptFact) → kept ≡ content.facts → AreGood shape dims kept → (facts : List Fact) → facts ≡ map fact_told kept → row_count (extended policy dims facts) ≤ MAX_ROWS
      → (rows anew : List KeptRows) → rows ≡ content.rows → anew ≡ map kept_rows (extended policy dims facts) → (fault : LoadFault) → IsRowsFault rows anew fault → IsLoadFault policy shape dims content fault
  rows-fault kept kept_is good facts told few rows anew rows_are anew_are fault is =
      let facts_are : facts ≡ facts_told content = told ∙ ap (map fact_told) kept_is in
      let made : anew ≡ rows_anew policy dims content = anew_are ∙ ap (λ (fs : List Fact). map kept_rows (extended policy dims fs)) facts_are in
      row-fault (subst (AreGood shape dims) kept_is good) (subst (λ (fs : List Fact). row_count (extended policy dims fs) ≤ MAX_ROWS) facts_are few) fault
      (subst (λ (rs : List KeptRows). IsRowsFault rs (rows_anew policy dims content) fault) rows_are (subst (λ (rs : List KeptRows). IsRowsFault rows rs fault) made is))

-- the rows of a state over a policy, measures, a space and facts
module _ {P : Type 0} (weigh : P → CellStat → ℕ) (state : StateValue P) (policy : P) (shape : ShapeValue) (dims : List Dimension) (facts : List Fact) (policy_is : state.policy ≡ policy) (shape_is : state.shape ≡ shape) (dims_are : state.dims ≡ dims) (facts_are : state.facts ≡ facts) where
  pub extended-of_state : rows_in weigh state ≡ extended (policy_over (weigh policy) shape) dims facts
  extended-of_state =
      ap (λ p. extended (policy_over (weigh p) state.shape) state.dims state.facts) policy_is
      ∙ ap (λ (s : ShapeValue). extended (policy_over (weigh policy) s) state.dims state.facts) shape_is
      ∙ ap (λ (ds : List Dimension). extended (policy_over (weigh policy) shape) ds state.facts) dims_are
      ∙ ap (λ (fs : List Fact). extended (policy_over (weigh policy) shape) dims fs) facts_are

  pub rows-of_state : map kept_rows (rows_in weigh state) ≡ map kept_rows (extended (policy_over (weigh policy) shape) dims facts)
  rows-of_state = ap (map kept_rows) extended-of_state
