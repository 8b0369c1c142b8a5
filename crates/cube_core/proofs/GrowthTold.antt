-- What a growth says, in the words of the cube.
use Rattle.std.proofs.Common.{◌≡◌, ℕ, List, [], ◌∷◌, ap, sym, ◌∙◌}
use Rattle.std.specs.Prelude.{Err, None, Some, if◌then◌else◌}
use Rattle.cube_base.specs.declared.code.Code.TheVariants as code
use Rattle.cube_model.specs.declared.edit.Fact.{Fact}
use Rattle.cube_model.specs.declared.statistic.CellStat.{CellStat}
use Rattle.cube_model.specs.Accepted.{first_refusal, has_many_rows}
use Rattle.cube_model.specs.Allocation.{Policy, extended}
use Rattle.cube_model.specs.Tree.{Dimension}
use Rattle.cube_state.specs.State.{StateValue, policy_in}
use Rattle.fact_keeper.specs.declared.content.Batch.{Batch}
use Rattle.fact_keeper.specs.declared.keeper.KeepError.{KeepError}
use Rattle.fact_keeper.specs.declared.keeper.KeepError.TheVariants as keep_error
use Rattle.fact_keeper.specs.Keeper.{CountsKeepFault}
use Rattle.fact_records.specs.Shape.{ShapeValue}
use Rattle.schema_text.specs.Growth.{dims_with}
use Rattle.schema_text.specs.Schema.{SchemaValue, over_dims, schema_policy}
use Rattle.cube_model.specs.declared.tree.Grow.{Grow}
use Rattle.cube_core.specs.Cube.{CountsEditFault, CubeValue, IsStateOf, fault_of_keeper}
use Rattle.cube_core.specs.Growth.{IsGrowthFaultOf, growth_difference_in, has_large_region, judge_growth, judge_growth_in, moved, moved_in, space_refusal}
use Rattle.cube_core.specs.Respread.{batch_to, facts_refusal}
use Rattle.cube_core.proofs.Stating.{all-same, cube_of}

-- where the space grows, the facts alone may refuse
judged-facts : (policy : Policy) (dims : List Dimension) (facts : List Fact) (grow : Grow) → space_refusal dims grow ≡ None → judge_growth policy dims facts grow ≡ facts_refusal policy (dims_with grow dims) facts
judged-facts policy dims facts grow none =
    ap (λ first. first_refusal (first
    ∷ (if has_large_region (dims_with grow dims) facts then Some code.Region else None)
    ∷ (if has_many_rows (extended policy (dims_with grow dims) facts) then Some code.Rows else None) ∷ [])) none

-- what a keeper counts, and what is answered then
pub keeper-counted : (R : Type 0) (old new : ℕ) (error : KeepError) → CountsKeepFault {T = Unit {0}} old new (Err error) → CountsEditFault {R = R} old new (Err (fault_of_keeper error))
keeper-counted R old new keep_error.Failed counts = counts
keeper-counted R old new keep_error.Memory counts = counts

pub keeper-told : {P : Type 0} (weigh : P → CellStat → ℕ) (cube : CubeValue P) (grow : Grow) (error : KeepError) → judge_growth_in weigh cube grow ≡ None → IsGrowthFaultOf weigh cube grow (fault_of_keeper error)
keeper-told weigh cube grow keep_error.Failed accepted = accepted
keeper-told weigh cube grow keep_error.Memory accepted = tt

module _ {P : Type 0} (weigh : P → CellStat → ℕ) (schema : SchemaValue) (state : StateValue P) (of : IsStateOf schema state) (cube : CubeValue P) (same : cube_of schema state ≡ cube) (grow : Grow)
    (later : SchemaValue)
    (is : later ≡ over_dims schema (dims_with grow schema.dims)) where
  -- the facts are judged as the state judges them
  pub none-judged : space_refusal schema.dims grow ≡ None → facts_refusal (policy_in weigh state) later.dims state.facts ≡ None → judge_growth_in weigh cube grow ≡ None
  none-judged accepted told =
      ap (λ (c : CubeValue P). judge_growth_in weigh c grow) (sym same)
      ∙ judged-facts (schema_policy (weigh state.policy) schema) schema.dims state.facts grow accepted
      ∙ sym (all-same weigh schema state of (λ (p : Policy) (shape : ShapeValue) dims. facts_refusal p (dims_with grow schema.dims) state.facts))
      ∙ ap (λ (s : SchemaValue). facts_refusal (policy_in weigh state) s.dims state.facts) (sym is)
      ∙ told

  -- what it refreshes, and what it changes of what is kept
  pub moved-told : (ids : List ℕ) → ids ≡ moved (policy_in weigh state) state.dims later.dims state.facts → ids ≡ moved_in weigh cube grow
  moved-told ids told =
      told
      ∙ ap (λ (s : SchemaValue). moved (policy_in weigh state) state.dims s.dims state.facts) is
      ∙ all-same weigh schema state of (λ (p : Policy) (shape : ShapeValue) dims. moved p dims (dims_with grow schema.dims) state.facts)
      ∙ ap (λ (c : CubeValue P). moved_in weigh c grow) same

  pub batch-told : (batch : Batch) → batch ≡ batch_to (policy_in weigh state) state.dims later state.facts → batch ≡ growth_difference_in weigh cube grow
  batch-told batch told =
      told
      ∙ ap (λ (s : SchemaValue). batch_to (policy_in weigh state) state.dims s state.facts) is
      ∙ all-same weigh schema state of (λ (p : Policy) (shape : ShapeValue) dims. batch_to p dims (over_dims schema (dims_with grow schema.dims)) state.facts)
      ∙ ap (λ (c : CubeValue P). growth_difference_in weigh c grow) same
