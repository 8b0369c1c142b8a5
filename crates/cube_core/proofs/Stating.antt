-- What a state says of its facts, in the words of the schema whose state it is.
use Rattle.std.proofs.Common.{◌≡◌, ℕ, ◌+◌, List, None, ap, ◌∙◌, subst}
use Rattle.cube_model.specs.declared.edit.Edit.{Edit}
use Rattle.cube_model.specs.declared.edit.Fact.{Fact}
use Rattle.cube_model.specs.declared.statistic.CellStat.{CellStat}
use Rattle.cube_model.specs.Allocation.{Policy, extended, row_count}
use Rattle.cube_model.specs.Answer.{answer}
use Rattle.cube_model.specs.Tree.{Dimension}
use Rattle.fact_keeper.specs.declared.content.Batch.{Batch}
use Rattle.fact_records.specs.Shape.{ShapeValue, policy_over, width_of_all}
use Rattle.fact_records.specs.Valid.{AreValid}
use Rattle.edit_plan.specs.Plan.{difference}
use Rattle.cube_state.specs.State.{StateValue, policy_in, terms_in}
use Rattle.edit_plan.specs.Whole.{IsAllFaultOf, difference_with, rows_with_new}
use Rattle.edit_plan.specs.declared.fault.PlanAllFault.{PlanAllFault}
use Rattle.edit_plan.specs.declared.fault.PlanAllFault.TheVariants as plan_all_fault
use Rattle.fact_records.specs.New.{put_all}
use Rattle.fact_records.specs.declared.fact_seq.FactSeq.{FactSeq}
use Rattle.schema_text.specs.Schema.{SchemaValue, schema_policy, shape_of}
use Rattle.cube_core.specs.Cube.{AreFactsOf, CubeValue, IsStateOf, cube_answer, cube_rows, difference_in}
use Rattle.cube_core.specs.Import.{IsImportFaultOf, import_difference_in, import_fault_of_plan, imported, refused_in_cube}

-- the cube of a schema and a state
abbrev pub cube_of : {P : Type 0} → SchemaValue → StateValue P → CubeValue P
cube_of schema state = record { policy = state.policy; schema = schema; facts = state.facts }

module _ {P : Type 0} (weigh : P → CellStat → ℕ) (schema : SchemaValue) (state : StateValue P) (of : IsStateOf schema state) where
  abbrev policy : Policy
  policy = schema_policy (weigh state.policy) schema

  -- what is made of a policy, the measures and the dimensions
  pub all-same : {X : Type 0} (f : Policy → ShapeValue → List Dimension → X) → f (policy_in weigh state) state.shape state.dims ≡ f policy (shape_of schema) schema.dims
  all-same f =
      ap (λ (p : Policy). f p state.shape state.dims) (ap (policy_over (weigh state.policy)) of.shape_is) ∙ ap (λ shape. f policy shape state.dims) of.shape_is ∙ ap (λ dims. f policy (shape_of schema) dims) of.dims_are

  pub terms-same : (region : List ℕ) → terms_in weigh state region ≡ record { columns = width_of_all schema.measures + 1; terms = cube_answer weigh (cube_of schema state) region }
  terms-same region = all-same (λ (p : Policy) shape dims. record { columns = width_of_all shape.measures + 1; terms = answer (width_of_all shape.measures) dims (extended p dims state.facts) region })

  -- the batch of a plan is what an edit changes, and what new facts do
  pub difference-told : (cube : CubeValue P) → cube_of schema state ≡ cube → (edit : Edit) (batch : Batch) → batch ≡ difference (policy_in weigh state) state.dims edit state.facts → batch ≡ difference_in weigh cube edit
  difference-told cube is edit batch planned = planned ∙ all-same (λ (p : Policy) (shape : ShapeValue) dims. difference p dims edit state.facts) ∙ ap (λ c. difference_in weigh c edit) is

  pub import-told : (cube : CubeValue P) → cube_of schema state ≡ cube → (new : List Fact) (batch : Batch) → batch ≡ difference_with (policy_in weigh state) state.dims new state.facts → batch ≡ import_difference_in weigh cube new
  import-told cube is new batch planned = planned ∙ all-same (λ (p : Policy) (shape : ShapeValue) dims. difference_with p dims new state.facts) ∙ ap (λ c. import_difference_in weigh c new) is

  -- and so is why new facts are not planned
  pub import-fault-told : (cube : CubeValue P) → cube_of schema state ≡ cube → (seq : FactSeq) → refused_in_cube cube seq ≡ None → (fault : PlanAllFault) → IsAllFaultOf weigh state seq.facts fault → IsImportFaultOf weigh cube seq (import_fault_of_plan fault)
  import-fault-told cube is seq well (plan_all_fault.Rows would) of = (well, (of.0 ∙ rows-told, of.1))
    where
      rows-told : row_count (rows_with_new weigh state seq.facts) ≡ row_count (cube_rows weigh (imported seq.facts cube))
      rows-told = all-same (λ (p : Policy) (shape : ShapeValue) dims. row_count (extended p dims (put_all seq.facts state.facts))) ∙ ap (λ c. row_count (cube_rows weigh (imported seq.facts c))) is
  import-fault-told cube is seq well plan_all_fault.Memory of = tt

  pub valid-same : AreValid state.shape state.dims state.facts → AreFactsOf schema state.facts
  valid-same valid = subst (λ dims. AreValid (shape_of schema) dims state.facts) of.dims_are (subst (λ shape. AreValid shape state.dims state.facts) of.shape_is valid)
